-- the magnitude of prices in one pass over columns, rows and entries
use Rattle.std.proofs.Common.{arith, ap, ◌≡◌, ℕ, ◌+◌, ◌*◌, length, unsigned_abs}
use Rattle.std.specs.List.{sum_by}
use Rattle.boxed_problem.specs.Data.{Problem}
use Rattle.boxed_problem.specs.BoxedFacts.{value_size}
use Rattle.boxed_problem.specs.PriceFit.{price_size}
use Rattle.base_words.specs.Sums.{size_below}
use Rattle.boxed_problem.specs.declared.parts.Prices.{Prices}
use Rattle.safe_bound.specs.PriceWeights.{limit_weight, weight}
use Rattle.safe_bound.proofs.PriceSizes.{Placed, rows_weigh}

pub parts_weigh : (b : Problem) (prices : Prices) (objective limits entries : ℕ) → Placed b → objective ≡ value_size b.columns b.constant b.line b.square → limits ≡ size_below (length b.rows) (limit_weight b prices) → entries ≡ sum_by (weight b prices) b.entries →
    unsigned_abs prices.scale * objective + (limits + entries) ≡ price_size b prices
parts_weigh b prices objective limits entries h o l e = omega (arith, ap (λ n. unsigned_abs prices.scale * n) o, l, e, rows_weigh b prices h)
