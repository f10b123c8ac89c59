-- a problem with the prices taken into its objective

use Rattle.std.specs.Prelude.{◌≡◌, ℕ, ◌==◌, ◌^◌, ◌≤◌, List, length, ℤ, pos, ◌+ℤ◌, ◌*ℤ◌, ◌≤ℤ◌, if◌then◌else◌}
use Rattle.std.specs.List.{All}
use Rattle.boxed_problem.specs.Data.{Problem}
use Rattle.boxed_problem.specs.BoxedFacts.{value_size}
use Rattle.boxed_problem.specs.Sides.{reach, side_at}
use Rattle.boxed_problem.specs.declared.parts.Prices.{Prices}
use Rattle.boxed_problem.specs.declared.parts.Side.{Side}
use Rattle.safe_bound.specs.PriceBound.{limit_sum, reduced_cost, scaled_square}

-- the constant with the limits' part
abbrev pub reduced_constant : Problem → Prices → ℤ
reduced_constant b prices = limit_sum b prices +ℤ (prices.scale *ℤ b.constant)

-- column j's reduced cost; 0 for a column whose box is the single 0, which adds nothing
abbrev pub kept_cost : Problem → Prices → ℕ → ℤ
kept_cost b prices j = if reach (side_at b.columns j) == 0 then pos 0 else reduced_cost b prices j

-- column j's scaled square; 0 for a column whose box is the single 0, which adds nothing
abbrev pub kept_square : Problem → Prices → ℕ → ℤ
kept_square b prices j =
    if reach (side_at b.columns j) == 0 then pos 0 else scaled_square b prices j

-- the facts that a reduced problem keeps
pub record IsReducedData (columns : List Side) (scale constant : ℤ)
    (line square : List ℤ) : Type 0 where
  pub lines : length line ≡ length columns
  pub squares : length square ≡ length columns
  pub positive : pos 1 ≤ℤ scale
  pub convex : All (λ q. pos 0 ≤ℤ q) square
  pub fits : value_size columns constant line square ≤ 2 ^ 125
