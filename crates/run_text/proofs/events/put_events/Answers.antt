use Rattle.std.proofs.Common.{arith, ◌∙◌}
use Rattle.run_log.specs.declared.log.Event.{Event}
use Rattle.run_text.proofs.Putting.{item_cut, item_put}
use Rattle.run_text.proofs.events.put_events.Goals as goal
use Rattle.run_text.specs.RunLines.{event_text}
use Rattle.text_lines.specs.Lines.{line_of}

pub returns-in-Err-clause-text : goal.returns-in-Err-clause-text
returns-in-Err-clause-text g c =
    item_cut (λ (event : Event). line_of (event_text event)) c.args.events.now c.loop-event.event-index _ (g.K.Sink.written c.args.out.now) (g.K.Sink.written c.loop-event.out) (g.K.Sink.written c.put_event.new.out) (omega arith) c.loop-event.invariant.written c.in-Err.ensures.text

pub loop-event-preserved : goal.loop-event-preserved
loop-event-preserved g c = record {
  written = item_put (λ (event : Event). line_of (event_text event)) c.args.events.now c.loop-event.event-index _ (g.K.Sink.written c.args.out.now) (g.K.Sink.written c.loop-event.out) (g.K.Sink.written c.put_event.new.out) (omega arith) c.loop-event.invariant.written c.in-Ok.ensures.text;
  count = c.in-Ok.ensures.count ∙ c.loop-event.invariant.count;
}
