use Rattle.std.proofs.Common.{◌≡◌, take}
use Rattle.std.specs.List.{fold}
use Rattle.reach_core.specs.Changed.{given_by}
use Rattle.reach_core.proofs.scenario_rows.give_all.Given as goal

abbrev pub invariant-loop-change : goal.invariant-loop-change
invariant-loop-change l = l.sums.items ≡ fold (given_by l.program) l.fn.sums.items (take l.change-index l.changes)
