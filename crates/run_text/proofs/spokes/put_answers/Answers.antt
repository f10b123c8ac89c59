use Rattle.std.proofs.Common.{arith, ◌∙◌}
use Rattle.log_words.specs.declared.log.Answer.{Answer}
use Rattle.run_text.proofs.Putting.{item_cut, item_put}
use Rattle.run_text.proofs.spokes.put_answers.Goals as goal
use Rattle.run_text.specs.RunLines.{answer_text}
use Rattle.text_lines.specs.Lines.{line_of}

pub returns-in-Err-clause-text : goal.returns-in-Err-clause-text
returns-in-Err-clause-text g c =
    item_cut (λ (answer : Answer). line_of (answer_text answer)) c.args.answers.now c.loop-answer.answer-index _ (g.K.Sink.written c.args.out.now) (g.K.Sink.written c.loop-answer.out) (g.K.Sink.written c.put_answer.new.out) (omega arith) c.loop-answer.invariant.written c.in-Err.ensures.text

pub loop-answer-preserved : goal.loop-answer-preserved
loop-answer-preserved g c = record {
  written = item_put (λ (answer : Answer). line_of (answer_text answer)) c.args.answers.now c.loop-answer.answer-index _ (g.K.Sink.written c.args.out.now) (g.K.Sink.written c.loop-answer.out) (g.K.Sink.written c.put_answer.new.out) (omega arith) c.loop-answer.invariant.written c.in-Ok.ensures.text;
  count = c.in-Ok.ensures.count ∙ c.loop-answer.invariant.count;
}
