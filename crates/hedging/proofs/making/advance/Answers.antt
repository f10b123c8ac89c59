use Rattle.std.proofs.Common.{◌+◌}
use Rattle.hedging.proofs.Makings.{made_is}
use Rattle.hedging.proofs.making.advance.Goals as goal

pub returns-clause-made : goal.returns-clause-made
returns-clause-made c = made_is c.args.run.now (c.args.hedge.now.put.number + 1) c.args.hedge.now.put.multipliers c.move_on.new.multipliers c.args.points c.args.x c.requires.values c.move_on.ensures
