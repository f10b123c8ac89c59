use Rattle.std.proofs.Common.{◌≡◌}
use Rattle.boxed_problem.specs.Data.{problem_of}
use Rattle.base_words.specs.Sums.{size_below}
use Rattle.safe_bound.specs.PriceWeights.{limit_weight}
use Rattle.row_prices.proofs.fitting.limits_weight.Given as goal

abbrev pub invariant-loop-i : goal.invariant-loop-i
invariant-loop-i l = l.sum ≡ size_below l.i (limit_weight (problem_of l.problem) l.prices)
