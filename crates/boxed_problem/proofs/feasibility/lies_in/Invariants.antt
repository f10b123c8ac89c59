use Rattle.std.proofs.Common.{ℕ, ◌<◌, ◌≤ℤ◌}
use Rattle.boxed_problem.specs.Sides.{side_at}
use Rattle.base_words.specs.Sums.{number_at}
use Rattle.boxed_problem.proofs.feasibility.lies_in.Given as goal

abbrev pub invariant-loop-j : goal.invariant-loop-j
invariant-loop-j l = record {
  lower : (k : ℕ) → k < l.j → (side_at l.sides k).lower ≤ℤ number_at l.point k;
  upper : (k : ℕ) → k < l.j → number_at l.point k ≤ℤ (side_at l.sides k).upper;
}
