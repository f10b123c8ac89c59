use Rattle.std.proofs.Common.{◌≡◌, ◌+ℤ◌}
use Rattle.boxed_problem.specs.Data.{problem_of}
use Rattle.base_words.specs.Sums.{sum_below}
use Rattle.safe_bound.specs.PriceBound.{reduced_least}
use Rattle.safe_bound.specs.Reducing.{reduced_constant}
use Rattle.safe_bound.specs.Runs.{StartsAt}
use Rattle.safe_bound.proofs.bounding.price_total.Given as goal

abbrev pub invariant-loop-j : goal.invariant-loop-j
invariant-loop-j l = record {
  total : l.total ≡ (reduced_constant (problem_of l.problem) l.prices +ℤ sum_below l.j (reduced_least (problem_of l.problem) l.prices l.sides));
  first : StartsAt l.problem.entries l.j l.first;
}
