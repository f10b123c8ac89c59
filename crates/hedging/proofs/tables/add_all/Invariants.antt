use Rattle.std.proofs.Common.{nat_lt}
use Rattle.put_words.specs.NodeSums.{node_for}
use Rattle.hedging.specs.Tables.{gain_of, HaveGained}
use Rattle.hedging.proofs.tables.add_all.Given as goal

abbrev pub invariant-loop-node : goal.invariant-loop-node
invariant-loop-node l = HaveGained l.run (λ s j. nat_lt (node_for l.run s j) l.node) (gain_of l.run l.x l.gain) l.fn.cells l.cells
