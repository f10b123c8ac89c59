use Rattle.std.proofs.Common.{◌≡◌, take}
use Rattle.base_words.specs.ListSums.{sum_z}
use Rattle.put_words.specs.NextMultipliers.{rise}
use Rattle.tree_core.specs.Nodes.{scenarios_at}
use Rattle.hedging.proofs.moving.front_rises.Given as goal

abbrev pub invariant-loop-i : goal.invariant-loop-i
invariant-loop-i l = l.sum ≡ sum_z (rise l.run l.x (scenarios_at l.run.program.tree.nodes l.node) l.column) (take l.i (scenarios_at l.run.program.tree.nodes l.node))
