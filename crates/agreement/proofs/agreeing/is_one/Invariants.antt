use Rattle.agreement.specs.Agreeing.{AreOneBelow}
use Rattle.agreement.proofs.agreeing.is_one.Given as goal

abbrev pub invariant-loop-column : goal.invariant-loop-column
invariant-loop-column l = AreOneBelow l.run l.x l.node l.column
