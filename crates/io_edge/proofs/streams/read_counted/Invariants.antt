use Rattle.std.proofs.Common.{◌≡◌, ◌≤◌, ◌-◌, length, vec_len}
use Rattle.std.specs.Io.KnownBytes.{Consumes}
use Rattle.io_edge.proofs.streams.read_counted.Given as goal

abbrev pub invariant-loop-len : goal.invariant-loop-len
invariant-loop-len g l = record {
  within : vec_len l.bytes ≤ l.limit;
  room : length l.piece ≡ 4096;
  read : Consumes (g.S.Read.remaining l.initial.source) (g.S.Read.remaining l.source) l.bytes.items;
  uncounted : l.faults ≡ l.initial.faults;
}

abbrev pub decreases-loop-len : goal.decreases-loop-len
decreases-loop-len g l = l.limit - vec_len l.bytes
