-- what a reduced problem holds of the problem and the prices that it was made of

use Rattle.std.specs.Prelude.{◌≡◌, ℕ, ◌<◌, true, List, length, ℤ, ◌+ℤ◌, ◌*ℤ◌, ◌≤ℤ◌}
use Rattle.boxed_problem.specs.Data.{Problem}
use Rattle.boxed_problem.specs.Objective.{value_of, value_part}
use Rattle.boxed_problem.specs.Optimum.{meets_all}
use Rattle.boxed_problem.specs.Points.{InBox}
use Rattle.base_words.specs.Sums.{number_at, sum_below}
use Rattle.boxed_problem.specs.declared.parts.Prices.{Prices}
use Rattle.boxed_problem.specs.declared.parts.Side.{Side}
use Rattle.safe_bound.specs.Leasts.{least_part}
use Rattle.safe_bound.specs.Reducing.{kept_cost, kept_square, reduced_constant}
use Rattle.safe_bound.specs.declared.reduced.Reduced.{Reduced}

-- the reduced problem is that of a problem and prices
pub record IsReduced (b : Problem) (prices : Prices) (r : Reduced) : Type 0 where
  pub columns : r.columns ≡ b.columns
  pub scale : r.scale ≡ prices.scale
  pub constant : r.constant ≡ reduced_constant b prices
  pub line : (j : ℕ) → j < length b.columns → number_at r.line j ≡ kept_cost b prices j
  pub square : (j : ℕ) → j < length b.columns → number_at r.square j ≡ kept_square b prices j

-- the reduced constant and the columns' leasts over a box
abbrev pub reduced_total : Reduced → List Side → ℤ
reduced_total r box = r.constant +ℤ sum_below (length r.columns) (least_part r.line r.square box)

-- the reduced objective at a point
abbrev pub reduced_value : Reduced → List ℤ → ℤ
reduced_value r x = r.constant +ℤ sum_below (length r.columns) (value_part r.line r.square x)

-- at each point of the problem's box that meets its rows, the reduced objective is at most the
-- scale times the problem's
pub record IsUnder (b : Problem) (r : Reduced) : Type 0 where
  pub columns : r.columns ≡ b.columns
  pub below : (x : List ℤ) → InBox b.columns x → meets_all b x ≡ true
      → reduced_value r x ≤ℤ (r.scale *ℤ value_of b x)
