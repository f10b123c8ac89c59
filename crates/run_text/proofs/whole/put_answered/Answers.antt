use Rattle.std.proofs.Common.{List, subst}
use Rattle.std.specs.List.{concat}
use Rattle.run_text.proofs.Putting.{cut_before, put_after}
use Rattle.run_text.proofs.whole.put_answered.Goals as goal
use Rattle.log_words.specs.declared.log.SpokeLog.{SpokeLog}
use Rattle.run_text.specs.Puts.{PutsText}
use Rattle.run_text.specs.RunLines.{end_text, spokes_lines_from}
use Rattle.text_lines.specs.Lines.{line_of}

pub returns-in-Ok-clause-text : goal.returns-in-Ok-clause-text
returns-in-Ok-clause-text g c =
    let spokes = subst (λ (spokes : List SpokeLog). PutsText (concat (spokes_lines_from 0 spokes)) (g.K.Sink.written c.put_end.new.out) (g.K.Sink.written c.put_spokes.new.out) c.put_spokes.result) c.as_slice.ensures c.put_spokes.ensures.text in
    put_after (line_of (end_text c.args.log.now.end)) (concat (spokes_lines_from 0 c.args.log.now.spokes)) (g.K.Sink.written c.args.out.now) (g.K.Sink.written c.put_end.new.out) (g.K.Sink.written c.put_spokes.new.out) c.put_spokes.result c.in-Ok.ensures.text spokes

pub returns-in-Err-clause-text : goal.returns-in-Err-clause-text
returns-in-Err-clause-text g c =
    cut_before (line_of (end_text c.args.log.now.end)) (concat (spokes_lines_from 0 c.args.log.now.spokes)) (g.K.Sink.written c.args.out.now) (g.K.Sink.written c.put_end.new.out) c.in-Err.ensures.text
