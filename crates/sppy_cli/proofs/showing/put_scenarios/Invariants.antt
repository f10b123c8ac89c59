use Rattle.std.proofs.Common.{◌≡◌}
use Rattle.io_edge.specs.Sinks.{appended}
use Rattle.text_lines.specs.ShowLines.{scenario_lines_of}
use Rattle.sppy_cli.proofs.TextLaws.{parts_below}
use Rattle.sppy_cli.proofs.showing.put_scenarios.Given as goal

abbrev pub invariant-loop-s : goal.invariant-loop-s
invariant-loop-s g l = record {
  written : g.K.Sink.written l.out ≡ appended (g.K.Sink.written l.initial.out) (parts_below (scenario_lines_of l.instance.triple.core l.instance.run) l.s);
  count : g.K.Sink.count l.out ≡ g.K.Sink.count l.initial.out;
}
