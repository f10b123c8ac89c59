use Rattle.std.proofs.Common.{◌≡◌, ℕ, ◌<◌, length}
use Rattle.boxed_problem.specs.Data.{problem_of}
use Rattle.base_words.specs.Sums.{number_at}
use Rattle.safe_bound.specs.Reducing.{kept_cost, kept_square}
use Rattle.safe_bound.specs.Runs.{StartsAt}
use Rattle.safe_bound.proofs.reducing.reduce_by.Given as goal

abbrev pub invariant-loop-j : goal.invariant-loop-j
invariant-loop-j l = record {
  first : StartsAt l.problem.entries l.j l.first;
  lines : length l.line ≡ length l.problem.columns;
  squares : length l.square ≡ length l.problem.columns;
  line : (k : ℕ) → k < l.j → number_at l.line k ≡ kept_cost (problem_of l.problem) l.prices k;
  square : (k : ℕ) → k < l.j → number_at l.square k ≡ kept_square (problem_of l.problem) l.prices k;
}
