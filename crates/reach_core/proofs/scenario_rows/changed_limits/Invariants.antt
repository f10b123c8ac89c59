use Rattle.std.proofs.Common.{◌≡◌, take}
use Rattle.std.specs.List.{fold}
use Rattle.reach_core.specs.Changed.{limited_by}
use Rattle.reach_core.proofs.scenario_rows.changed_limits.Given as goal

abbrev pub invariant-loop-change : goal.invariant-loop-change
invariant-loop-change l = l.changed.items ≡ fold limited_by l.sizes (take l.change-index l.changes)
