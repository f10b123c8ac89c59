use Rattle.std.proofs.Common.{ap, ◌%◌, ◌<◌, length, get_or, sym, subst, ℕ, List}
use Rattle.std.proofs.lemmas.Nat.{mod_below}
use Rattle.candidates.proofs.Means.{node_filled, node_members}
use Rattle.sp_model.specs.Problems.{scenarios}
use Rattle.tree_core.specs.Nodes.{scenarios_at}
use Rattle.candidates.proofs.choosing.numbered.Goals as goal

pub returns-clause-value : goal.returns-clause-value
returns-clause-value c =
    let ns = scenarios_at c.args.run.now.program.tree.nodes c.args.node in
    ap (λ (xs : List ℕ). get_or xs (c.args.number % length xs) 0) c.members-members.ensures.value

pub returns-clause-there : goal.returns-clause-there
returns-clause-there c =
    let run = c.args.run.now in
    let ns = scenarios_at run.program.tree.nodes c.args.node in
    let place = c.args.number % length ns in
    let own : get_or ns place 0 < scenarios run = (node_members run c.args.node c.requires).there place 0 (mod_below c.args.number (length ns) (node_filled run c.args.node c.requires)) in
    subst (λ n. n < scenarios run) (sym (returns-clause-value c)) own
