-- prices that are cut: the sign that the limits allow, and a cap on the magnitude

use Rattle.std.specs.Prelude.{ℕ, ◌<◌, ◌≤◌, List, length, ℤ, unsigned_abs, slice_index_or}
use Rattle.boxed_problem.specs.BoxedFacts.{limits_at}
use Rattle.boxed_problem.specs.PriceFit.{HasSign}
use Rattle.base_words.specs.Sums.{number_at}
use Rattle.boxed_problem.specs.declared.parts.Limits.{Limits}

-- a price has the sign that the limits of its row ask for, and its magnitude is at most the cap
pub record IsCapped (limits : Limits) (cap : ℕ) (price : ℤ) : Type 0 where
  pub sign : HasSign limits price
  pub size : unsigned_abs price ≤ cap

-- the cap of row i
abbrev pub cap_at : List ℕ → ℕ → ℕ
cap_at caps i = slice_index_or caps i 0

-- each row's price is capped
abbrev pub AreCapped : List Limits → List ℕ → List ℤ → Type 0
AreCapped rows caps prices = (i : ℕ) → i < length rows → IsCapped (limits_at rows i) (cap_at caps i) (number_at prices i)
