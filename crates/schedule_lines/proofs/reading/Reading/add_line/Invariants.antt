use Rattle.std.proofs.Common.{◌≡◌, drop}
use Rattle.schedule_lines.specs.ReadingSteps.{IsCounted, said_behind}
use Rattle.schedule_lines.proofs.Answering.{span_words}
use Rattle.schedule_lines.proofs.reading.Reading.add_line.Given as goal

abbrev pub invariant-loop-span : goal.invariant-loop-span
invariant-loop-span l = record {
  rest : said_behind l.crew l.self.turns (span_words l.bytes l.line.number (drop l.span-index l.line.fields)) ≡ said_behind l.crew l.initial.self.turns (span_words l.bytes l.line.number l.line.fields);
  counted : IsCounted l.self;
}
