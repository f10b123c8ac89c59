use Rattle.put_read.proofs.Putting.{IsFilling}
use Rattle.put_read.proofs.reader.fill.Given as goal

abbrev pub invariant-loop-rank : goal.invariant-loop-rank
invariant-loop-rank l = IsFilling l.layout l.reader l.number l.put l.rank
