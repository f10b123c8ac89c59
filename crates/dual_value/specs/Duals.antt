-- Why a dual value isn't answered.

use Rattle.std.specs.Prelude.{◌≡◌, ℕ, ◌<◌, List, ℤ, ◌+ℤ◌}
use Rattle.base_words.specs.Sums.{number_at}
use Rattle.boxed_problem.specs.Data.{Problem}
use Rattle.boxed_problem.specs.Optimum.{Feasible}
use Rattle.branch_bound.specs.PlainSearch.{ref_count}
use Rattle.sp_model.specs.ScenarioPoints.{IsFirstInfeasible}
use Rattle.sp_model.specs.Plans.{multiplier_of, with_prices}
use Rattle.sp_model.specs.Problems.{problem_in}
use Rattle.sp_model.specs.declared.plan.Multipliers.{Multipliers}
use Rattle.sp_model.specs.declared.run.Run.{Run}
use Rattle.wait_and_see.specs.Spending.{IsSpentIn}
use Rattle.dual_value.specs.declared.summing.DualFault.{DualFault}
use Rattle.dual_value.specs.declared.summing.DualFault.TheVariants as fault

-- the problem of scenario s with its multipliers as prices
abbrev pub priced_in : Run → Multipliers → ℕ → Problem
priced_in run multipliers s = with_prices (problem_in run s) (multiplier_of run multipliers s)

-- the cost of column j with its price
abbrev pub priced_at : Run → Multipliers → ℕ → ℕ → ℤ
priced_at run multipliers s j =
    number_at (problem_in run s).line j +ℤ multiplier_of run multipliers s j

-- why there is no dual value
abbrev pub DualFails : Run → Multipliers → ℕ → DualFault → Type 0
DualFails run multipliers budget (fault.NoPoint s) = IsFirstInfeasible run s
DualFails run multipliers budget (fault.Spent s opened) =
    IsSpentIn run (priced_in run multipliers) budget s opened
DualFails run multipliers budget fault.Memory = Unit {0}

-- why the search of scenario s has no answer
abbrev pub LeastFails : Run → Multipliers → ℕ → ℕ → DualFault → Type 0
LeastFails run multipliers budget s (fault.NoPoint u) =
    (u ≡ s) × ((x : List ℤ) → Feasible (problem_in run s) x → ⊥)
LeastFails run multipliers budget s (fault.Spent u opened) =
    (u ≡ s) × (opened ≡ budget) × (budget < ref_count (priced_in run multipliers s))
LeastFails run multipliers budget s fault.Memory = Unit {0}
