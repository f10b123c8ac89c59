use Rattle.std.proofs.Common.{◌≡◌, [], drop}
use Rattle.schedule_lines.specs.Schedules.{words_in}
use Rattle.schedule_lines.specs.ReadingSteps.{IsCounted, said_behind}
use Rattle.schedule_lines.proofs.schedule_file.read_lines.Given as goal

abbrev pub invariant-loop-line : goal.invariant-loop-line
invariant-loop-line l = record {
  rest : said_behind l.crew l.reading.turns (words_in l.bytes (drop l.line-index l.lines)) ≡ said_behind l.crew [] (words_in l.bytes l.lines);
  counted : IsCounted l.reading;
}
