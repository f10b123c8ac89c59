use Rattle.std.proofs.Common.{arith, ap, length}
use Rattle.hedging.proofs.Fitting.{node_filled}
use Rattle.hedging.proofs.moving.is_last.Goals as goal

pub overflow_sub-result : goal.overflow_sub-result
overflow_sub-result c = omega (arith, ap length c.members-members.ensures.value, node_filled c.args.run.now c.args.node c.requires)
