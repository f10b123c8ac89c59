use Rattle.run_calls.specs.MultiplierTests.{AreMembers}
use Rattle.std.proofs.Common.{◌∙◌, sym, subst, List, ℕ}
use Rattle.tree_core.specs.Nodes.{no_node}
use Rattle.run_calls.proofs.multiplying.members.Goals as goal

pub returns-clause-members : goal.returns-clause-members
returns-clause-members c =
    let run = c.args.run.now in
    let fact = run.facts.tree.nodes c.args.node no_node c.requires in
    subst (λ (ns : List ℕ). AreMembers run ns) (sym (c.as_slice.ensures ∙ c.scenarios.ensures)) (record { there = fact.there; ascending = fact.ascending })
