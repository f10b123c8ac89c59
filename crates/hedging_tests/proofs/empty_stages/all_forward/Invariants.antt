use Rattle.std.proofs.Common.{◌≡◌, map, take}
use Rattle.hedging_tests.specs.Forward.{drawn_forward}
use Rattle.hedging_tests.proofs.empty_stages.all_forward.Given as goal

abbrev pub invariant-loop-column : goal.invariant-loop-column
invariant-loop-column l = l.made ≡ map (drawn_forward l.stages) (take l.column-index l.columns)
