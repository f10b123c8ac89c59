-- Which prices of rows fit a problem: their signs, and how great they may be.
use Rattle.std.specs.Prelude.{◌≡◌, ℕ, ◌+◌, ◌*◌, ◌^◌, ◌<◌, ◌≤◌, length, ℤ, pos, ◌≤ℤ◌, unsigned_abs, None}
use Rattle.boxed_problem.specs.BoxedFacts.{limits_at, row_size, value_size}
use Rattle.base_words.specs.Sums.{number_at, size_below}
use Rattle.boxed_problem.specs.declared.parts.Limits.{Limits}
use Rattle.boxed_problem.specs.declared.parts.Prices.{Prices}
use Rattle.boxed_problem.specs.Data.{Problem}

-- a price is at least 0 where the row has no upper limit, and at most 0 where it has no lower one
pub record HasSign (limits : Limits) (price : ℤ) : Type 0 where
  pub above : limits.upper ≡ None → pos 0 ≤ℤ price
  pub below : limits.lower ≡ None → price ≤ℤ pos 0

-- the magnitude of row i's price times that of the row
abbrev pub price_part : Problem → Prices → ℕ → ℕ
price_part b prices i =
    unsigned_abs (number_at prices.values i) * row_size b.columns b.rows b.entries i

-- the scale times the objective's magnitude, and each price's times its row's
abbrev pub price_size : Problem → Prices → ℕ
price_size b prices = unsigned_abs prices.scale * value_size b.columns b.constant b.line b.square
    + size_below (length b.rows) (price_part b prices)

-- the prices fit the problem
pub record FitsPrices (b : Problem) (prices : Prices) : Type 0 where
  pub long : length prices.values ≡ length b.rows
  pub scale : pos 1 ≤ℤ prices.scale
  pub signs : (i : ℕ) → i < length b.rows → HasSign (limits_at b.rows i) (number_at prices.values i)
  pub size : price_size b prices ≤ 2 ^ 125
