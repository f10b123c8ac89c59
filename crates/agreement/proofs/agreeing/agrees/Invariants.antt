use Rattle.std.proofs.Common.{ℕ, ◌<◌}
use Rattle.agreement.specs.Agreeing.{AreOneBelow}
use Rattle.agreement.proofs.agreeing.agrees.Given as goal

abbrev pub invariant-loop-node : goal.invariant-loop-node
invariant-loop-node l = (i : ℕ) → i < l.node → AreOneBelow l.run l.x i l.run.nonleaf
