use Rattle.std.proofs.Common.{◌≡◌, drop}
use Rattle.smps_words.specs.TextLines.{text_lines}
use Rattle.stoch_lines.specs.Turns.{before_in}
use Rattle.stoch_lines.specs.StochOutcome.{stepped, stepped_from}
use Rattle.stoch_lines.proofs.reading.read_lines.Given as goal

abbrev pub invariant-loop-line : goal.invariant-loop-line
invariant-loop-line l =
    stepped_from l.core l.periods (before_in l.state) (text_lines l.bytes (drop l.line-index l.lines)) ≡ stepped l.core l.periods (text_lines l.bytes l.lines)
