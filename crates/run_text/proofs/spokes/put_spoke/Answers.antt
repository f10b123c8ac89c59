use Rattle.std.proofs.Common.{List, map, subst}
use Rattle.std.specs.List.{concat}
use Rattle.log_words.specs.declared.log.Answer.{Answer}
use Rattle.run_text.proofs.Putting.{cut_before, put_after}
use Rattle.run_text.proofs.spokes.put_spoke.Goals as goal
use Rattle.run_text.specs.Puts.{PutsText}
use Rattle.run_text.specs.RunLines.{answer_text, spoke_text}
use Rattle.text_lines.specs.Lines.{line_of}

pub returns-in-Ok-clause-text : goal.returns-in-Ok-clause-text
returns-in-Ok-clause-text g c =
    let answers = subst (λ (answers : List Answer). PutsText (concat (map (λ (answer : Answer). line_of (answer_text answer)) answers)) (g.K.Sink.written c.put_kind.new.out) (g.K.Sink.written c.put_answers.new.out) c.put_answers.result) c.as_slice.ensures c.put_answers.ensures.text in
    put_after (line_of (spoke_text c.args.i c.args.spoke.now.kind)) (concat (map (λ (answer : Answer). line_of (answer_text answer)) c.args.spoke.now.answers)) (g.K.Sink.written c.args.out.now) (g.K.Sink.written c.put_kind.new.out) (g.K.Sink.written c.put_answers.new.out) c.put_answers.result c.in-Ok.ensures.text answers

pub returns-in-Err-clause-text : goal.returns-in-Err-clause-text
returns-in-Err-clause-text g c =
    cut_before (line_of (spoke_text c.args.i c.args.spoke.now.kind)) (concat (map (λ (answer : Answer). line_of (answer_text answer)) c.args.spoke.now.answers)) (g.K.Sink.written c.args.out.now) (g.K.Sink.written c.put_kind.new.out) c.in-Err.ensures.text
