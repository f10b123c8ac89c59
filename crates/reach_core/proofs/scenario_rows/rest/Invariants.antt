use Rattle.std.proofs.Common.{◌≡◌, take}
use Rattle.std.specs.List.{fold}
use Rattle.reach_core.specs.Changed.{taken_by}
use Rattle.reach_core.proofs.scenario_rows.rest.Given as goal

abbrev pub invariant-loop-change : goal.invariant-loop-change
invariant-loop-change l = l.rest.items ≡ fold (taken_by l.program) l.sums (take l.change-index l.changes)
