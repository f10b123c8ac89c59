use Rattle.std.proofs.Common.{◌==◌, ◌&&◌, take}
use Rattle.std.specs.List.{list_any}
use Rattle.tree_core.specs.Nodes.{scenarios_at}
use Rattle.hedging.specs.Tables.{gain_of, HaveGained}
use Rattle.hedging.proofs.tables.add_members.Given as goal

abbrev pub invariant-loop-i : goal.invariant-loop-i
invariant-loop-i l = HaveGained l.run (λ s j. (j == l.column) && list_any (λ u. u == s) (take l.i (scenarios_at l.run.program.tree.nodes l.node))) (gain_of l.run l.x l.gain) l.fn.cells l.cells
