use Rattle.std.proofs.Common.{◌≡◌, take}
use Rattle.std.specs.List.{concat}
use Rattle.io_edge.specs.Sinks.{appended}
use Rattle.run_text.specs.RunLines.{event_lines_of}
use Rattle.run_text.proofs.events.put_events.Given as goal

abbrev pub invariant-loop-event : goal.invariant-loop-event
invariant-loop-event g l = record {
  written : g.K.Sink.written l.out ≡ appended (g.K.Sink.written l.initial.out) (concat (event_lines_of (take l.event-index l.events)));
  count : g.K.Sink.count l.out ≡ g.K.Sink.count l.initial.out;
}
