use Rattle.std.proofs.Common.{ap, map, ◌∙◌}
use Rattle.hedging_tests.specs.Forward.{drawn_forward}
use Rattle.hedging_tests.proofs.Forwards.{facts_moved}
use Rattle.hedging_tests.proofs.empty_stages.empty_stages_between.Goals as goal

pub invariant_of-run : goal.invariant_of-run
invariant_of-run c =
    let run = c.args.run.now in
    record { facts = facts_moved run.program run.options run.total run.nonleaf c.in_ok-columns.columns (c.in_ok-columns.ensures ∙ ap (map (drawn_forward run.program.tree.stages)) c.as_slice.ensures) run.facts }
