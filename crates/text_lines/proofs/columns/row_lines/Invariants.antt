use Rattle.std.proofs.Common.{◌≡◌, map}
use Rattle.std.specs.List.{range_with_len}
use Rattle.text_lines.specs.Lines.{AreFull}
use Rattle.text_lines.specs.ShowLines.{row_line}
use Rattle.text_lines.proofs.columns.row_lines.Given as goal

abbrev pub invariant-loop-i : goal.invariant-loop-i
invariant-loop-i l = record {
  lines : l.lines ≡ map (row_line l.core l.run l.places) (range_with_len 0 l.i);
  full : AreFull l.lines;
}
