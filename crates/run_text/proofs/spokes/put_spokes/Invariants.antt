use Rattle.std.proofs.Common.{◌≡◌}
use Rattle.io_edge.specs.Sinks.{appended}
use Rattle.run_text.proofs.Numbering.{first_spokes}
use Rattle.run_text.proofs.spokes.put_spokes.Given as goal

abbrev pub invariant-loop-i : goal.invariant-loop-i
invariant-loop-i g l = record {
  written : g.K.Sink.written l.out ≡ appended (g.K.Sink.written l.initial.out) (first_spokes l.spokes l.i);
  count : g.K.Sink.count l.out ≡ g.K.Sink.count l.initial.out;
}
