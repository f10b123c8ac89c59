-- Which scenarios of a run have feasible points.

use Rattle.std.specs.Prelude.{ℕ, ◌<◌, List, ℤ}
use Rattle.boxed_problem.specs.Optimum.{Feasible}
use Rattle.sp_model.specs.Problems.{problem_in, scenarios}
use Rattle.sp_model.specs.declared.run.Run.{Run}

-- scenario s has a feasible point
abbrev pub HasPoint : Run → ℕ → Type 0
HasPoint run s = (x : List ℤ) × Feasible (problem_in run s) x

-- each scenario before n has one
abbrev pub HavePoints : Run → ℕ → Type 0
HavePoints run n = (s : ℕ) → s < n → HasPoint run s

-- s is the first scenario without a feasible point
pub record IsFirstInfeasible (run : Run) (s : ℕ) : Type 0 where
  pub there : s < scenarios run
  pub none : (x : List ℤ) → Feasible (problem_in run s) x → ⊥
  pub before : HavePoints run s
