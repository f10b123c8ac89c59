use Rattle.std.proofs.Common.{◌≡◌, take}
use Rattle.std.specs.List.{concat}
use Rattle.io_edge.specs.Sinks.{appended}
use Rattle.sppy_cli.proofs.writer.write_lines.Given as goal

abbrev pub invariant-loop-line : goal.invariant-loop-line
invariant-loop-line g l = record {
  written : g.K.Sink.written l.out ≡ appended (g.K.Sink.written l.initial.out) (concat (take l.line-index l.lines));
  count : g.K.Sink.count l.out ≡ g.K.Sink.count l.initial.out;
}
