use Rattle.candidates.specs.Filling.{AreFilled}
use Rattle.candidates.proofs.filling.fill_node.Given as goal

abbrev pub invariant-loop-column : goal.invariant-loop-column
invariant-loop-column l = AreFilled l.run l.x l.choice l.node l.column l.values
