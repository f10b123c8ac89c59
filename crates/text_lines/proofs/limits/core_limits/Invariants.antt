use Rattle.std.proofs.Common.{◌≡◌, map, take}
use Rattle.sp_model.specs.Changes.{limits_of}
use Rattle.text_lines.proofs.limits.core_limits.Given as goal

abbrev pub invariant-loop-row : goal.invariant-loop-row
invariant-loop-row l = l.limits.items ≡ map limits_of (take l.row-index l.rows)
