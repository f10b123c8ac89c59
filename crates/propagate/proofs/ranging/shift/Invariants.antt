use Rattle.std.proofs.Common.{◌≤◌, length, slice_set}
use Rattle.propagate.specs.Spans.{place_at}
use Rattle.propagate.proofs.RangingLaws.{AreMoving}
use Rattle.propagate.proofs.ranging.shift.Given as goal

abbrev pub invariant-loop-k : goal.invariant-loop-k
invariant-loop-k l = record {
  from : place_at l.sparse.starts l.column ≤ l.k;
  moving : AreMoving (length l.sparse.rows) l.sparse.entries l.sides (slice_set l.sides l.column l.side) l.k l.ranges;
}
