use Rattle.std.proofs.Common.{◌≡◌, map}
use Rattle.std.specs.List.{range_with_len}
use Rattle.text_lines.specs.Lines.{AreFull}
use Rattle.text_lines.specs.ShowLines.{column_line}
use Rattle.text_lines.proofs.columns.column_lines.Given as goal

abbrev pub invariant-loop-j : goal.invariant-loop-j
invariant-loop-j l = record {
  lines : l.lines ≡ map (column_line l.core l.run) (range_with_len 0 l.j);
  full : AreFull l.lines;
}
