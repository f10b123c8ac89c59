use Rattle.std.proofs.Common.{◌==◌, ◌&&◌, nat_lt}
use Rattle.put_words.specs.NodeSums.{node_for}
use Rattle.hedging.specs.Tables.{gain_of, HaveGained}
use Rattle.hedging.proofs.tables.add_node.Given as goal

abbrev pub invariant-loop-column : goal.invariant-loop-column
invariant-loop-column l = HaveGained l.run (λ s j. (node_for l.run s j == l.node) && nat_lt j l.column) (gain_of l.run l.x l.gain) l.fn.cells l.cells
