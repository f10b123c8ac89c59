use Rattle.propagate.proofs.TightLaws.{tightens_self}
use Rattle.propagate.proofs.settling.visit_waiting.Goals as goal

pub loop-init : goal.loop-init
loop-init c = record { tightens = tightens_self c.args.sparse.now c.args.trail.now; same = c.requires }
