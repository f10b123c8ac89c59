use Rattle.std.proofs.Common.{ℕ, ◌<◌}
use Rattle.boxed_problem.specs.BoxedFacts.{limits_at}
use Rattle.boxed_problem.specs.PriceFit.{HasSign}
use Rattle.base_words.specs.Sums.{number_at}
use Rattle.row_prices.proofs.fitting.have_signs.Given as goal

abbrev pub invariant-loop-i : goal.invariant-loop-i
invariant-loop-i l = (k : ℕ) → k < l.i → HasSign (limits_at l.problem.rows k) (number_at l.prices.values k)
