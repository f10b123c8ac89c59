use Rattle.std.proofs.Common.{◌≡◌, map}
use Rattle.std.specs.List.{range_with_len}
use Rattle.smps_core.specs.Rows.{row_with}
use Rattle.smps_core.proofs.rows.rows_with.Given as goal

abbrev pub invariant-loop-i : goal.invariant-loop-i
invariant-loop-i l = l.rows ≡ map (row_with l.kinds l.rights l.ranges) (range_with_len 0 l.i)
