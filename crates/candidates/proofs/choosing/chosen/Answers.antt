use Rattle.std.proofs.Common.{subst}
use Rattle.candidates.specs.Choices.{AreFit}
use Rattle.candidates.proofs.choosing.chosen.Goals as goal

pub cut_mean-requires-clause-inside : goal.cut_mean-requires-clause-inside
cut_mean-requires-clause-inside c = subst (AreFit c.args.run.now c.args.x.now) c.in-Mean.is c.requires.fit
