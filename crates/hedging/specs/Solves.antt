-- What the search of one scenario answers.

use Rattle.std.specs.Prelude.{◌≡◌, ℕ, ◌<◌, List, ℤ}
use Rattle.boxed_problem.specs.Optimum.{Feasible}
use Rattle.branch_bound.specs.PlainSearch.{ref_count}
use Rattle.hedging.specs.declared.hedge.FirstFault.{FirstFault}
use Rattle.hedging.specs.declared.hedge.FirstFault.TheVariants as first_fault
use Rattle.sp_model.specs.Problems.{problem_in}
use Rattle.sp_model.specs.declared.run.Run.{Run}

-- why a search of scenario s has no answer
abbrev pub BestFails : Run → ℕ → FirstFault → Type 0
BestFails run s (first_fault.Infeasible u) =
    (u ≡ s) × ((x : List ℤ) → Feasible (problem_in run s) x → ⊥)
BestFails run s (first_fault.Spent u opened) =
    (u ≡ s) × (opened ≡ run.options.budget) × (run.options.budget < ref_count (problem_in run s))
BestFails run s first_fault.Memory = Unit {0}
