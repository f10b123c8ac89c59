use Rattle.std.proofs.Common.{rules, FitsSigned, List, subst, to_z-of_z}
use Rattle.std.specs.Int.{w128}
use Rattle.std.specs.List.{concat}
use Rattle.run_text.proofs.Putting.{cut_before, put_after}
use Rattle.run_text.proofs.whole.put_begin.Goals as goal
use Rattle.run_text.specs.Bodies.{first_line}
use Rattle.run_text.specs.Puts.{PutsText}
use Rattle.run_text.specs.RunLines.{event_lines_of}
use Rattle.run_log.specs.declared.log.Event.{Event}

pub returns-in-Ok-clause-text : goal.returns-in-Ok-clause-text
returns-in-Ok-clause-text g c =
    let fits : FitsSigned w128 c.args.log.now.first = search rules in
    let events = subst (λ (events : List Event). PutsText (concat (event_lines_of events)) (g.K.Sink.written c.put_first.new.out) (g.K.Sink.written c.put_events.new.out) c.put_events.result) c.as_slice.ensures c.put_events.ensures.text in
    put_after (first_line c.args.log.now.first) (concat (event_lines_of c.args.log.now.events)) (g.K.Sink.written c.args.out.now) (g.K.Sink.written c.put_first.new.out) (g.K.Sink.written c.put_events.new.out) c.put_events.result (simp to_z-of_z at c.in-Ok.ensures.text) events

pub returns-in-Err-clause-text : goal.returns-in-Err-clause-text
returns-in-Err-clause-text g c =
    let fits : FitsSigned w128 c.args.log.now.first = search rules in
    cut_before (first_line c.args.log.now.first) (concat (event_lines_of c.args.log.now.events)) (g.K.Sink.written c.args.out.now) (g.K.Sink.written c.put_first.new.out) (simp to_z-of_z at c.in-Err.ensures.text)
