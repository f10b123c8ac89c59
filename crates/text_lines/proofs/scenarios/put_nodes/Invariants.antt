use Rattle.std.proofs.Common.{◌≡◌, ◌++◌}
use Rattle.std.specs.List.{flat_map, range_with_len}
use Rattle.text_lines.specs.ShowLines.{node_text}
use Rattle.text_lines.proofs.scenarios.put_nodes.Given as goal

abbrev pub invariant-loop-t : goal.invariant-loop-t
invariant-loop-t l = l.line.items ≡ l.initial.line.items ++ flat_map (node_text l.run l.s) (range_with_len 1 l.t)
