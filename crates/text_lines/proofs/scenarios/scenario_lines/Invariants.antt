use Rattle.std.proofs.Common.{◌≡◌, ◌∷◌, map}
use Rattle.std.specs.List.{range_with_len}
use Rattle.text_lines.specs.Lines.{AreFull}
use Rattle.sp_model.specs.Problems.{data_at}
use Rattle.sp_model.specs.Values.{limits_in}
use Rattle.text_lines.specs.ShowLines.{limits_line, scenario_line}
use Rattle.text_lines.proofs.scenarios.scenario_lines.Given as goal

abbrev pub invariant-loop-i : goal.invariant-loop-i
invariant-loop-i l = record {
  lines : l.lines ≡ scenario_line l.run l.s ∷ map (λ i. limits_line l.core l.s i (limits_in (data_at l.run l.s) i)) (range_with_len 0 l.i);
  full : AreFull l.lines;
}
