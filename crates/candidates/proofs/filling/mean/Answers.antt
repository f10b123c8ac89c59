use Rattle.candidates.proofs.filling.mean.Goals as goal

pub returns-clause-inside : goal.returns-clause-inside
returns-clause-inside c = c.made.ensures.inside c.requires
