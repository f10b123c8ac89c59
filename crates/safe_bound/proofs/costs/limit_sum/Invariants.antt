use Rattle.std.proofs.Common.{◌≡◌}
use Rattle.boxed_problem.specs.Data.{problem_of}
use Rattle.base_words.specs.Sums.{sum_below}
use Rattle.safe_bound.specs.PriceBound.{limit_price}
use Rattle.safe_bound.proofs.costs.limit_sum.Given as goal

abbrev pub invariant-loop-i : goal.invariant-loop-i
invariant-loop-i l = l.sum ≡ sum_below l.i (limit_price (problem_of l.problem) l.prices)
