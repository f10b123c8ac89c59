use Rattle.std.proofs.Common.{length}
use Rattle.hedging_tests.proofs.PointLists.{next_whole}
use Rattle.hedging_tests.proofs.plans.are_points.Goals as goal

pub loop-s-preserved : goal.loop-s-preserved
loop-s-preserved c = next_whole c.args.plan.now (length c.args.run.now.program.columns) c.loop-s.s c.loop-s.invariant (c.is_whole.ensures c.if-not-is_whole.false)
