-- What the sum of the least values answers.
use Rattle.std.specs.Prelude.{◌≡◌, ℤ, Some, Result, Ok, Err}
use Rattle.sp_model.specs.Problems.{scenarios, wait_and_see_of}
use Rattle.sp_model.specs.ScenarioPoints.{HavePoints, IsFirstInfeasible}
use Rattle.sp_model.specs.declared.run.Run.{Run}
use Rattle.wait_and_see.specs.Spending.{IsSpent}
use Rattle.wait_and_see.specs.declared.fault.WaitFault.{WaitFault}
use Rattle.wait_and_see.specs.declared.fault.WaitFault.TheVariants.{Infeasible, Spent, Memory}

-- each scenario of a run has a feasible point
abbrev pub AllHavePoints : Run → Type 0
AllHavePoints run = HavePoints run (scenarios run)

-- the answer is the wait-and-see bound, or the first scenario without a feasible point, or one that
-- used up its budget; want of memory is free
abbrev pub WaitAnswers : Run → Result ℤ WaitFault → Type 0
WaitAnswers run (Ok bound) = wait_and_see_of run ≡ Some bound
WaitAnswers run (Err (Infeasible scenario)) = IsFirstInfeasible run scenario
WaitAnswers run (Err (Spent scenario opened)) = IsSpent run scenario opened
WaitAnswers run (Err Memory) = Unit {0}
