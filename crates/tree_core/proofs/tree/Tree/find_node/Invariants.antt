use Rattle.std.proofs.Common.{◌≡◌, ℕ, ◌<◌, get_or, false}
use Rattle.tree_core.specs.declared.tree.Node.{Node}
use Rattle.tree_core.specs.Nodes.{holds}
use Rattle.tree_core.proofs.tree.Tree.find_node.Given as goal

abbrev pub invariant-loop-i : goal.invariant-loop-i
invariant-loop-i l = (k : ℕ) (d : Node) → k < l.i → holds l.scenario l.stage (get_or l.nodes k d) ≡ false
