-- what a best value so far leaves of sides, under the objective and under prices
use Rattle.std.specs.Prelude.{◌≡◌, true, List, ℤ, pos, ◌≤ℤ◌, ◌-ℤ◌, ◌*ℤ◌, Option}
use Rattle.boxed_problem.specs.Data.{Problem, problem_of}
use Rattle.boxed_problem.specs.Objective.{curve, value_of}
use Rattle.boxed_problem.specs.Optimum.{improves}
use Rattle.boxed_problem.specs.Points.{InBox}
use Rattle.boxed_problem.specs.PriceFit.{FitsPrices}
use Rattle.boxed_problem.specs.Sides.{Within}
use Rattle.boxed_problem.specs.declared.parts.Best.{Best}
use Rattle.boxed_problem.specs.declared.parts.Prices.{Prices}
use Rattle.boxed_problem.specs.declared.parts.Side.{Side}
use Rattle.branch_bound.specs.Narrowing.{KeepsBetter}
use Rattle.branch_bound.specs.ValueGrid.{IsGrid}
use Rattle.branch_bound.specs.declared.gridding.Grid.{Grid}
use Rattle.branch_bound.specs.declared.pricing.Pricing.{Pricing}
use Rattle.dual_simplex.specs.declared.simplex.Simplex.{Simplex}
use Rattle.propagate.specs.Ranged.{IsInside}
use Rattle.propagate.specs.Trails.{KeepsAllMarks}
use Rattle.propagate.specs.declared.trail.Trail.{Trail}
use Rattle.safe_bound.specs.Leasts.{least_on}
use Rattle.safe_bound.specs.ReducedOf.{IsUnder}
use Rattle.safe_bound.specs.declared.reduced.Reduced.{Reduced}

-- narrower sides, that lose no point that meets the rows and is below the best so far
pub record Narrows (b : Problem) (best : Option Best) (old new : Trail) : Type 0 where
  pub within : Within new.sides old.sides
  pub keeps : KeepsBetter b best old.sides new.sides
  pub marks : KeepsAllMarks old new

-- the scale times each value below the best so far is at most a number
abbrev pub IsMost : Problem → Option Best → ℤ → ℤ → Type 0
IsMost b best scale most = (x : List ℤ) → InBox b.columns x → improves (value_of b x) best ≡ true
    → (scale *ℤ value_of b x) ≤ℤ most

-- the scale times each value below the best so far is at most a slack above a total
pub record IsSlack (b : Problem) (best : Option Best) (scale total slack : ℤ) : Type 0 where
  pub least_slack : pos 0 ≤ℤ slack
  pub most : (x : List ℤ) → InBox b.columns x → improves (value_of b x) best ≡ true
      → ((scale *ℤ value_of b x) -ℤ total) ≤ℤ slack

-- a side that keeps each value at which a column adds at most a slack above its least
pub record KeepsSlack (line square : ℤ) (side : Side) (slack : ℤ) (new : Side) : Type 0 where
  pub inside : IsInside new side
  pub keeps : (x : ℤ) → side.lower ≤ℤ x → x ≤ℤ side.upper
      → (curve line square x -ℤ least_on line square side) ≤ℤ slack
      → (new.lower ≤ℤ x) × (x ≤ℤ new.upper)

-- prices that fit a problem, the problem's own objective and the one that prices reduce, which stay
-- under the problem's, the grid of its values, and a simplex that is of this problem
pub record IsPricing (b : Problem) (prices : Prices) (plain priced : Reduced) (grid : Grid)
    (simplex : Simplex) : Type 0 where
  pub fit : FitsPrices b prices
  pub plain_under : IsUnder b plain
  pub priced_under : IsUnder b priced
  pub values : IsGrid b grid.base grid.step
  pub of : problem_of simplex.problem.value ≡ b

-- what a search prices its boxes by is right for a problem
abbrev pub IsPriced : Problem → Pricing → Type 0
IsPriced b p = IsPricing b p.prices p.plain p.priced p.grid p.simplex
