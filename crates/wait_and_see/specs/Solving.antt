-- What solving one scenario of a run answers.
use Rattle.std.specs.Prelude.{◌≡◌, ℕ, ℤ, ◌<◌, Some, None, Result, Ok, Err}
use Rattle.branch_bound.specs.PlainSearch.{ref_count}
use Rattle.sp_model.specs.Problems.{least_of, problem_in}
use Rattle.sp_model.specs.declared.run.Run.{Run}
use Rattle.wait_and_see.specs.declared.fault.WaitFault.{WaitFault}
use Rattle.wait_and_see.specs.declared.fault.WaitFault.TheVariants.{Infeasible, Spent, Memory}

-- the least value, or that there is none, or that the budget was used up, each told of this
-- scenario; want of memory is free
abbrev pub SolvesIn : Run → ℕ → Result ℤ WaitFault → Type 0
SolvesIn run s (Ok value) = least_of (problem_in run s) ≡ Some value
SolvesIn run s (Err (Infeasible scenario)) = (scenario ≡ s) × (least_of (problem_in run s) ≡ None)
SolvesIn run s (Err (Spent scenario opened)) = (scenario ≡ s) × (opened ≡ run.options.budget)
    × (run.options.budget < ref_count (problem_in run s))
SolvesIn run s (Err Memory) = Unit {0}
