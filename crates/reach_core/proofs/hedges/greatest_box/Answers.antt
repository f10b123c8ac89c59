use Rattle.sp_model.specs.Reaching.{box_reach}
use Rattle.reach_core.proofs.Capped.{greatest_next}
use Rattle.reach_core.proofs.hedges.greatest_box.Goals as goal

pub loop-j-preserved : goal.loop-j-preserved
loop-j-preserved c = greatest_next (box_reach c.args.program.now) c.loop-j.j c.loop-j.most c.box_reach.result c.larger-most.result c.loop-j.invariant c.box_reach.ensures c.larger-most.ensures
