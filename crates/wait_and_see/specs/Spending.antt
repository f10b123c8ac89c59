-- When the budget of a scenario's search is used up.
use Rattle.std.specs.Prelude.{◌≡◌, ℕ, ◌<◌}
use Rattle.boxed_problem.specs.Data.{Problem}
use Rattle.branch_bound.specs.PlainSearch.{ref_count}
use Rattle.sp_model.specs.Problems.{problem_in, scenarios}
use Rattle.sp_model.specs.ScenarioPoints.{HavePoints}
use Rattle.sp_model.specs.declared.run.Run.{Run}

-- of a run with a problem for each scenario, the search of scenario s is spent: all boxes of the
-- budget were opened, the plain search opens more, and each scenario before has a feasible point
pub record IsSpentIn (run : Run) (problems : ℕ → Problem) (budget s opened : ℕ) : Type 0 where
  pub there : s < scenarios run
  pub before : HavePoints run s
  pub opened_is : opened ≡ budget
  pub more : budget < ref_count (problems s)

-- the search of a scenario's own problem is spent, with the budget that the options name
abbrev pub IsSpent : Run → ℕ → ℕ → Type 0
IsSpent run s opened = IsSpentIn run (problem_in run) run.options.budget s opened
