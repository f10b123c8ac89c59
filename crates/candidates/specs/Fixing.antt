-- The problem of a scenario whose first columns are fixed to a candidate, and why its search has no
-- answer.

use Rattle.std.specs.Prelude.{◌≡◌, ℕ, ◌<◌, nat_lt, length, map, ℤ, ◌≤ℤ◌, None, if◌then◌else◌}
use Rattle.std.specs.List.{range_with_len}
use Rattle.boxed_problem.specs.Data.{Problem}
use Rattle.boxed_problem.specs.Optimum.{IsBest}
use Rattle.boxed_problem.specs.Sides.{side_at}
use Rattle.boxed_problem.specs.declared.parts.Side.{Side}
use Rattle.branch_bound.specs.PlainSearch.{ref_count}
use Rattle.log_words.specs.Candidates.{single}
use Rattle.sp_model.specs.Changes.{sides}
use Rattle.sp_model.specs.Problems.{problem_in}
use Rattle.sp_model.specs.declared.run.Run.{Run}
use Rattle.candidates.specs.Under.{HasNoneUnder}
use Rattle.candidates.specs.declared.fault.PriceFault.{PriceFault}
use Rattle.candidates.specs.declared.fault.PriceFault.TheVariants as fault

-- the side of column j, where the columns before n are fixed
abbrev pub side_fixed : Run → (ℕ → ℕ → ℤ) → ℕ → ℕ → ℕ → Side
side_fixed run values s n j =
    if nat_lt j n then single (values s j) else side_at (sides run.program) j

-- the problem of scenario s with the columns before n fixed
abbrev pub fixed_below : Run → (ℕ → ℕ → ℤ) → ℕ → ℕ → Problem
fixed_below run values s n =
    record (problem_in run s) {
      columns = map (side_fixed run values s n) (range_with_len 0 (length run.program.columns));
    }

-- the value of scenario s in column j lies in the column's box
pub record LiesIn (run : Run) (values : ℕ → ℕ → ℤ) (s j : ℕ) : Type 0 where
  pub lower : (side_at (sides run.program) j).lower ≤ℤ values s j
  pub upper : values s j ≤ℤ (side_at (sides run.program) j).upper

-- the values of scenario s in the columns before n lie in their boxes
abbrev pub LieBelow : Run → (ℕ → ℕ → ℤ) → ℕ → ℕ → Type 0
LieBelow run values s n = (j : ℕ) → j < n → LiesIn run values s j

-- why a scenario's problem isn't fixed
abbrev pub FixFails : Run → (ℕ → ℕ → ℤ) → ℕ → PriceFault → Type 0
FixFails run values s (fault.NoPoint u) = (u ≡ s) × HasNoneUnder run values s
FixFails run values s (fault.Spent u opened) = ⊥
FixFails run values s fault.Memory = Unit {0}

-- why the search of a problem has no answer, told of scenario s
abbrev pub SearchFails : Problem → ℕ → ℕ → PriceFault → Type 0
SearchFails problem budget s (fault.NoPoint u) = (u ≡ s) × IsBest problem None
SearchFails problem budget s (fault.Spent u opened) =
    (u ≡ s) × (opened ≡ budget) × (budget < ref_count problem)
SearchFails problem budget s fault.Memory = Unit {0}
