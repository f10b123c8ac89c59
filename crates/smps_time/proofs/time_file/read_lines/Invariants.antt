use Rattle.std.proofs.Common.{◌≡◌, drop}
use Rattle.smps_words.specs.TextLines.{text_lines}
use Rattle.smps_time.specs.Reading.{added, added_from, before_in, Keeps}
use Rattle.smps_time.specs.TimeAnswers.{names_of}
use Rattle.smps_time.proofs.time_file.read_lines.Given as goal

abbrev pub invariant-loop-line : goal.invariant-loop-line
invariant-loop-line l = record {
  rest : added_from (names_of l.core) (before_in l.reading) (text_lines l.bytes (drop l.line-index l.lines)) ≡ added (names_of l.core) (text_lines l.bytes l.lines);
  keeps : Keeps l.reading;
}
