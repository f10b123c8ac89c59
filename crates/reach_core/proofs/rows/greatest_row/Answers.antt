use Rattle.std.proofs.Common.{◌+◌, slice_index}
use Rattle.reach_core.proofs.Capped.{greatest_capped}
use Rattle.reach_core.proofs.rows.greatest_row.Goals as goal

pub loop-i-preserved : goal.loop-i-preserved
loop-i-preserved c = greatest_capped (λ i. slice_index c.args.limits.now i + slice_index c.args.sums.now i) c.loop-i.i c.loop-i.most c.row_reach.result c.larger-most.result c.loop-i.invariant c.row_reach.ensures c.larger-most.ensures
