use Rattle.std.proofs.Common.{refl}
use Rattle.propagate.proofs.TightLaws.{before_tightens}
use Rattle.propagate.proofs.settling.visit.Goals as goal

pub returns-in_default-clause-tightens : goal.returns-in_default-clause-tightens
returns-in_default-clause-tightens c = before_tightens c.args.sparse.now c.args.trail.now _ (record { sides = refl; changes = refl; marks = refl; ranges = refl; sparse = refl })

pub returns-then-row-len-clause-tightens : goal.returns-then-row-len-clause-tightens
returns-then-row-len-clause-tightens c = before_tightens c.args.sparse.now c.args.trail.now _ (record { sides = refl; changes = refl; marks = refl; ranges = refl; sparse = refl })
