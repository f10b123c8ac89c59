use Rattle.std.proofs.Common.{◌≡◌, ◌++◌, map}
use Rattle.tree_core.specs.Marks.{node}
use Rattle.tree_core.proofs.building.append.Given as goal

abbrev pub invariant-loop-scenarios : goal.invariant-loop-scenarios
invariant-loop-scenarios l = l.nodes ≡ l.fn.nodes ++ map (node l.stage) l.yielded
