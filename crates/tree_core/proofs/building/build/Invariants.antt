use Rattle.std.proofs.Common.{◌≡◌}
use Rattle.std.specs.List.{flat_map, range_with_len}
use Rattle.tree_core.specs.Marks.{nodes_at}
use Rattle.tree_core.proofs.building.build.Given as goal

abbrev pub invariant-loop-before : goal.invariant-loop-before
invariant-loop-before l = l.nodes ≡ flat_map (nodes_at l.owners) (range_with_len 1 l.before)
