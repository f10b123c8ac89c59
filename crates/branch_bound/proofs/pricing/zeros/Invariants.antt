use Rattle.std.proofs.Common.{length, ◌≡◌, ℕ, ◌<◌, pos}
use Rattle.base_words.specs.Sums.{number_at}
use Rattle.branch_bound.proofs.pricing.zeros.Given as goal

abbrev pub invariant-loop : goal.invariant-loop
invariant-loop l = record {
  long : length l.xs ≡ l.counter;
  all : (k : ℕ) → k < l.counter → number_at l.xs k ≡ pos 0;
}
