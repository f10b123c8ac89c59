use Rattle.std.proofs.Common.{length, ◌≡◌, ℕ, ◌<◌}
use Rattle.propagate.specs.Spans.{place_at}
use Rattle.propagate.proofs.spans.repeated.Given as goal

abbrev pub invariant-loop : goal.invariant-loop
invariant-loop l = record {
  long : length l.xs ≡ l.counter;
  all : (k : ℕ) → k < l.counter → place_at l.xs k ≡ l.number;
}
