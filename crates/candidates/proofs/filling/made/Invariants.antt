use Rattle.candidates.specs.Filling.{AreFilled}
use Rattle.candidates.proofs.filling.made.Given as goal

abbrev pub invariant-loop-node : goal.invariant-loop-node
invariant-loop-node l = AreFilled l.run l.x l.choice l.node 0 l.values
