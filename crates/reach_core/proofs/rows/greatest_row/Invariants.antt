use Rattle.std.proofs.Common.{◌≡◌, ◌+◌, map, slice_index}
use Rattle.std.specs.List.{range_with_len}
use Rattle.capped_num.specs.Capped.{capped}
use Rattle.sp_model.specs.Reaching.{greatest}
use Rattle.reach_core.proofs.rows.greatest_row.Given as goal

abbrev pub invariant-loop-i : goal.invariant-loop-i
invariant-loop-i l = l.most ≡ capped (greatest (map (λ i. slice_index l.limits i + slice_index l.sums i) (range_with_len 0 l.i)))
