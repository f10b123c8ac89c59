use Rattle.std.proofs.Common.{◌≡◌, ℕ, ◌<◌, length}
use Rattle.propagate.specs.Ranged.{IsRange, range_at}
use Rattle.propagate.proofs.undoing.first_ranges.Given as goal

abbrev pub invariant-loop-row : goal.invariant-loop-row
invariant-loop-row l = record {
  long : length l.ranges ≡ l.row;
  all : (i : ℕ) → i < l.row → IsRange l.sparse.entries l.sparse.columns i (range_at l.ranges i);
}
