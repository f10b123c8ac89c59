use Rattle.std.proofs.Common.{◌≡◌, FitsSigned}
use Rattle.std.proofs.lemmas.Int.{to_z-of_z}
use Rattle.std.specs.Int.{w128}
use Rattle.capped_num.specs.Capped.{capped}
use Rattle.sp_model.specs.Reaching.{hedge_part}
use Rattle.reach_core.proofs.Capped.{sum_next}
use Rattle.reach_core.proofs.hedges.hedge_reach.Goals as goal

pub loop-j-preserved : goal.loop-j-preserved
loop-j-preserved c =
    let ft : FitsSigned w128 c.args.total = c.ranges.total in
    let part : c.hedge_part.result ≡ capped (hedge_part c.args.program.now c.args.options.now c.args.total c.loop-j.j) = simp to_z-of_z at c.hedge_part.ensures in
    simp to_z-of_z (sum_next (hedge_part c.args.program.now c.args.options.now c.args.total) c.loop-j.j c.loop-j.sum c.hedge_part.result c.capped_sum-sum.result (simp to_z-of_z at c.loop-j.invariant) part c.capped_sum-sum.ensures)
