use Rattle.std.proofs.Common.{◌≡◌, map, take}
use Rattle.std.specs.List.{concat}
use Rattle.io_edge.specs.Sinks.{appended}
use Rattle.run_text.specs.RunLines.{answer_text}
use Rattle.run_text.proofs.spokes.put_answers.Given as goal
use Rattle.text_lines.specs.Lines.{line_of}

abbrev pub invariant-loop-answer : goal.invariant-loop-answer
invariant-loop-answer g l = record {
  written : g.K.Sink.written l.out ≡ appended (g.K.Sink.written l.initial.out) (concat (map (λ answer. line_of (answer_text answer)) (take l.answer-index l.answers)));
  count : g.K.Sink.count l.out ≡ g.K.Sink.count l.initial.out;
}
