use Rattle.std.proofs.Common.{◌≡◌, [], drop}
use Rattle.smps_words.specs.Outcomes.{folded}
use Rattle.smps_words.specs.TextLines.{text_lines}
use Rattle.core_lines.specs.Lines.{before_of, line_fault, is_end_header, next}
use Rattle.core_lines.specs.States.{before_in}
use Rattle.core_lines.proofs.reading.read_by_steps.Given as goal

abbrev pub invariant-loop-line : goal.invariant-loop-line
invariant-loop-line l = folded line_fault is_end_header next (before_of []) (text_lines l.bytes l.lines) ≡ folded line_fault is_end_header next (before_in l.state) (text_lines l.bytes (drop l.line-index l.lines))
