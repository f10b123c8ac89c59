use Rattle.std.proofs.Common.{refl}
use Rattle.lagrangian_spoke.proofs.StartingSpoke.{starts}
use Rattle.lagrangian_spoke.proofs.spoke.LagrangianSpoke.start.Goals as goal

pub returns-clause-stands : goal.returns-clause-stands
returns-clause-stands c = starts c.args.run.now c.args.number _ c.requires (record { number_is = refl; phase = refl; answers = c.in_ok-answers.ensures.0; best = c.in_ok-best.ensures.found }) c.in_ok-answers.ensures.1 c.in_ok-best.ensures c.in_ok-reader.ensures.fresh c.in_ok-reader.ensures.reads
