-- What the calls on a hedge answer.

use Rattle.std.specs.Prelude.{◌≡◌, ℕ, ◌<◌, Some}
use Rattle.branch_bound.specs.PlainSearch.{ref_count}
use Rattle.put_words.specs.Hedged.{hedged_in}
use Rattle.put_words.specs.Puts.{Made, put_of}
use Rattle.sp_model.specs.ScenarioPoints.{IsFirstInfeasible}
use Rattle.sp_model.specs.Problems.{scenarios, wait_and_see_of}
use Rattle.run_calls.specs.declared.put.Put.{Put}
use Rattle.sp_model.specs.declared.run.Run.{Run}
use Rattle.wait_and_see.specs.Spending.{IsSpent}
use Rattle.hedging.specs.declared.hedge.FirstFault.{FirstFault}
use Rattle.hedging.specs.declared.hedge.FirstFault.TheVariants as first_fault
use Rattle.hedging.specs.declared.hedge.Hedge.{Hedge}
use Rattle.hedging.specs.declared.hedge.NextFault.{NextFault}
use Rattle.hedging.specs.declared.hedge.NextFault.TheVariants as next_fault

-- the put of a hedge with the points that it was made from
abbrev pub made_of : Hedge → Made
made_of hedge = record { put = hedge.put; plan = hedge.plan }

-- put 1, and the wait-and-see bound
abbrev pub IsFirst : Run → Hedge → Type 0
IsFirst run hedge = (put_of run 1 ≡ Some (made_of hedge)) × (wait_and_see_of run ≡ Some hedge.bound)

-- why there is no first put
abbrev pub FirstFails : Run → FirstFault → Type 0
FirstFails run (first_fault.Infeasible s) = IsFirstInfeasible run s
FirstFails run (first_fault.Spent s opened) = IsSpent run s opened
FirstFails run first_fault.Memory = Unit {0}

-- the search of the hedged problem of scenario s is spent
pub record IsHedgedSpent (run : Run) (put : Put) (s opened : ℕ) : Type 0 where
  pub there : s < scenarios run
  pub opened_is : opened ≡ run.options.budget
  pub more : run.options.budget < ref_count (hedged_in run put.multipliers put.x s)

-- why there is no put after this one
abbrev pub NextFails : Run → Put → NextFault → Type 0
NextFails run put (next_fault.Spent s opened) = IsHedgedSpent run put s opened
NextFails run put next_fault.Memory = Unit {0}
