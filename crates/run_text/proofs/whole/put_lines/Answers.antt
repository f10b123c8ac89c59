use Rattle.std.proofs.Common.{sym, subst, List, ℕ, ◌++◌, Option}
use Rattle.std.specs.List.{concat}
use Rattle.io_edge.specs.Sinks.{AppendsFront}
use Rattle.run_log.specs.declared.log.Log.{Log}
use Rattle.run_text.proofs.Putting.{body_is, cut_after, cut_before, put_after}
use Rattle.run_text.proofs.whole.put_lines.Goals as goal
use Rattle.run_text.specs.Bodies.{first_line, last_lines}
use Rattle.run_text.specs.Puts.{PutsText}
use Rattle.run_text.specs.RunLines.{end_text, event_lines_of, spokes_lines_from}
use Rattle.run_text.specs.declared.worth.Worth.{Worth}
use Rattle.text_lines.specs.Lines.{line_of}

abbrev begin : Log → List ℕ
begin log = first_line log.first ++ concat (event_lines_of log.events)

abbrev answered : Log → List ℕ
answered log = line_of (end_text log.end) ++ concat (spokes_lines_from 0 log.spokes)

abbrev last : Worth → Option Worth → List ℕ
last lower upper = concat (last_lines lower upper)

pub returns-in-Err-clause-text : goal.returns-in-Err-clause-text
returns-in-Err-clause-text g c =
    let log = c.args.log.now in
    let lower = c.args.lower.now in
    let upper = c.args.upper.now in
    let old = g.K.Sink.written c.args.out.now in
    let new = g.K.Sink.written c.put_begin.new.out in
    subst (AppendsFront old new) (sym (body_is log lower upper)) (cut_before (begin log) (answered log ++ last lower upper) old new c.in-Err.ensures.text)

pub returns-in-Ok-put_answered-clause-text : goal.returns-in-Ok-put_answered-clause-text
returns-in-Ok-put_answered-clause-text g c =
    let log = c.args.log.now in
    let lower = c.args.lower.now in
    let upper = c.args.upper.now in
    let old = g.K.Sink.written c.args.out.now in
    let first = g.K.Sink.written c.put_begin.new.out in
    let second = g.K.Sink.written c.put_answered.new.out in
    let new = g.K.Sink.written c.put_last.new.out in
    subst (λ (text : List ℕ). PutsText text old new c.put_last.result) (sym (body_is log lower upper))
    (put_after (begin log) (answered log ++ last lower upper) old first new c.put_last.result c.in-Ok.ensures.text
    (put_after (answered log) (last lower upper) first second new c.put_last.result c.in-Ok-put_answered.ensures.text c.put_last.ensures.text))

pub returns-in-Err-put_answered-clause-text : goal.returns-in-Err-put_answered-clause-text
returns-in-Err-put_answered-clause-text g c =
    let log = c.args.log.now in
    let lower = c.args.lower.now in
    let upper = c.args.upper.now in
    let old = g.K.Sink.written c.args.out.now in
    let first = g.K.Sink.written c.put_begin.new.out in
    let new = g.K.Sink.written c.put_answered.new.out in
    subst (AppendsFront old new) (sym (body_is log lower upper))
    (cut_after (begin log) (answered log ++ last lower upper) old first new c.in-Ok.ensures.text
    (cut_before (answered log) (last lower upper) first new c.in-Err-put_answered.ensures.text))
