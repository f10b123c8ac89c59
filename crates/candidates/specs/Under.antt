-- Points under a candidate: feasible points of scenarios that have its values in the nonleaf
-- columns, and the first least ones among them.

use Rattle.std.specs.Prelude.{◌≡◌, ℕ, ◌<◌, List, length, ℤ, ◌≤ℤ◌, ◌<ℤ◌}
use Rattle.base_words.specs.Sums.{number_at}
use Rattle.boxed_problem.specs.Objective.{value_of}
use Rattle.boxed_problem.specs.Optimum.{Feasible, Precedes}
use Rattle.branch_bound.specs.PlainSearch.{ref_count}
use Rattle.log_words.specs.Candidates.{fixed_in}
use Rattle.sp_model.specs.Plans.{point_of}
use Rattle.sp_model.specs.Problems.{problem_in, scenarios}
use Rattle.sp_model.specs.declared.plan.Plan.{Plan}
use Rattle.sp_model.specs.declared.run.Run.{Run}
use Rattle.candidates.specs.declared.fault.PriceFault.{PriceFault}
use Rattle.candidates.specs.declared.fault.PriceFault.TheVariants as fault

-- a feasible point of scenario s with these values in the nonleaf columns
pub record IsPointUnder (run : Run) (values : ℕ → ℕ → ℤ) (s : ℕ) (x : List ℤ) : Type 0 where
  pub feasible : Feasible (problem_in run s) x
  pub early : (j : ℕ) → j < run.nonleaf → number_at x j ≡ values s j

-- the first least one of them: none is lower, and each earlier one is higher
pub record IsBestUnder (run : Run) (values : ℕ → ℕ → ℤ) (s : ℕ) (x : List ℤ) : Type 0 where
  pub under : IsPointUnder run values s x
  pub least : (y : List ℤ) → IsPointUnder run values s y
      → value_of (problem_in run s) x ≤ℤ value_of (problem_in run s) y
  pub first : (y : List ℤ) → IsPointUnder run values s y → Precedes y x
      → value_of (problem_in run s) x <ℤ value_of (problem_in run s) y

-- the first least point of each scenario
pub record AreBestUnder (run : Run) (values : ℕ → ℕ → ℤ) (plan : Plan) : Type 0 where
  pub long : length plan.points ≡ scenarios run
  pub each : (s : ℕ) → s < scenarios run → IsBestUnder run values s (point_of plan s)

-- each scenario before n has a point under the candidate
abbrev pub HavePointsUnder : Run → (ℕ → ℕ → ℤ) → ℕ → Type 0
HavePointsUnder run values n = (s : ℕ) → s < n → (x : List ℤ) × IsPointUnder run values s x

-- scenario s has no point under the candidate
abbrev pub HasNoneUnder : Run → (ℕ → ℕ → ℤ) → ℕ → Type 0
HasNoneUnder run values s = (x : List ℤ) → IsPointUnder run values s x → ⊥

-- the first scenario without one
pub record IsFirstWithout (run : Run) (values : ℕ → ℕ → ℤ) (s : ℕ) : Type 0 where
  pub there : s < scenarios run
  pub none : HasNoneUnder run values s
  pub before : HavePointsUnder run values s

-- the search of scenario s is spent: all boxes of the budget were opened, the plain search of its
-- problem under the candidate opens more, and each scenario before has a point
pub record IsSpentUnder (run : Run) (values : ℕ → ℕ → ℤ) (budget s opened : ℕ) : Type 0 where
  pub there : s < scenarios run
  pub before : HavePointsUnder run values s
  pub opened_is : opened ≡ budget
  pub more : budget < ref_count (fixed_in run values s)

-- why a candidate has no price
abbrev pub PriceFails : Run → (ℕ → ℕ → ℤ) → ℕ → PriceFault → Type 0
PriceFails run values budget (fault.NoPoint s) = IsFirstWithout run values s
PriceFails run values budget (fault.Spent s opened) = IsSpentUnder run values budget s opened
PriceFails run values budget fault.Memory = Unit {0}

-- why the search of scenario s has no answer
abbrev pub UnderFails : Run → (ℕ → ℕ → ℤ) → ℕ → ℕ → PriceFault → Type 0
UnderFails run values budget s (fault.NoPoint u) = (u ≡ s) × HasNoneUnder run values s
UnderFails run values budget s (fault.Spent u opened) =
    (u ≡ s) × (opened ≡ budget) × (budget < ref_count (fixed_in run values s))
UnderFails run values budget s fault.Memory = Unit {0}
