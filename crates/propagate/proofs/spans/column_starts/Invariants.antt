use Rattle.std.proofs.Common.{length, ◌≡◌, ℕ, ◌<◌}
use Rattle.propagate.specs.Spans.{IsBorder, place_at}
use Rattle.propagate.proofs.spans.column_starts.Given as goal

abbrev pub invariant-loop-j : goal.invariant-loop-j
invariant-loop-j l = record {
  long : length l.starts ≡ l.j;
  borders : (i : ℕ) → i < l.j → IsBorder l.entries i (place_at l.starts i);
  border : IsBorder l.entries l.j l.place;
}
