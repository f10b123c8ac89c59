use Rattle.propagate.proofs.TightLaws.{tightens_self}
use Rattle.propagate.proofs.tightening.tighten_entry.Goals as goal

pub returns-then-is_row_missed-clause-tightens : goal.returns-then-is_row_missed-clause-tightens
returns-then-is_row_missed-clause-tightens c = tightens_self c.args.sparse.now c.args.trail.now
