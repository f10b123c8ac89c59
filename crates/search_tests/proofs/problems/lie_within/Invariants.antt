use Rattle.std.proofs.Common.{ℕ, ◌<◌, ◌≤ℤ◌}
use Rattle.boxed_problem.specs.Sides.{side_at}
use Rattle.search_tests.proofs.problems.lie_within.Given as goal

abbrev pub invariant-loop-j : goal.invariant-loop-j
invariant-loop-j l =
    (k : ℕ) → k < l.j →
    ((side_at l.inner k).lower ≤ℤ (side_at l.inner k).upper) × ((side_at l.outer k).lower ≤ℤ (side_at l.inner k).lower) × ((side_at l.inner k).upper ≤ℤ (side_at l.outer k).upper)
