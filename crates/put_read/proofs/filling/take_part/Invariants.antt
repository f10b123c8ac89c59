use Rattle.put_read.proofs.Taking.{IsTaking}
use Rattle.put_read.proofs.filling.take_part.Given as goal

abbrev pub invariant-loop-index : goal.invariant-loop-index
invariant-loop-index l = IsTaking l.words l.start l.fn.put l.put l.index
