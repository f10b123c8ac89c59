use Rattle.std.proofs.Common.{◌≡◌, map}
use Rattle.std.specs.List.{range_with_len}
use Rattle.smps_core.specs.Rows.{column_with}
use Rattle.smps_core.proofs.columns.columns_with.Given as goal

abbrev pub invariant-loop-j : goal.invariant-loop-j
invariant-loop-j l = l.columns ≡ map (column_with l.lowers l.uppers l.flags l.costs) (range_with_len 0 l.j)
