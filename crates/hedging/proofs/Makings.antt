-- Puts out of points, and searches that end without one.

use Rattle.std.proofs.Common.{sym, ap, ◌∙◌, ◌≡◌, ℕ, ◌+◌, ◌<◌, List, [], ◌∷◌, ◌++◌, add-one, map, ℤ, Some}
use Rattle.std.specs.List.{range_with_len}
use Rattle.std.specs.Option.{option_map}
use Rattle.base_words.specs.Gathered.{gathered}
use Rattle.boxed_problem.specs.Data.{Problem}
use Rattle.boxed_problem.specs.Optimum.{best_of}
use Rattle.boxed_problem.specs.declared.parts.Best.{Best}
use Rattle.put_words.specs.NextMultipliers.{moved, next_of}
use Rattle.put_words.specs.Puts.{bests_below, early_values, Made, made_from}
use Rattle.sp_model.specs.ScenarioPoints.{HavePoints}
use Rattle.put_words.proofs.Points.{bests_next}
use Rattle.sp_model.specs.Problems.{least_of, problem_in, scenarios}
use Rattle.sp_model.specs.declared.plan.Multipliers.{Multipliers}
use Rattle.sp_model.specs.declared.run.Run.{Run}
use Rattle.sp_model.proofs.ScenarioPoints.{first_infeasible}
use Rattle.wait_and_see.proofs.Points.{spent_at}
use Rattle.hedging.specs.Hedges.{FirstFails}
use Rattle.hedging.specs.Solves.{BestFails}
use Rattle.hedging.specs.declared.hedge.FirstFault.{FirstFault}
use Rattle.hedging.specs.declared.hedge.FirstFault.TheVariants.{Infeasible, Spent, Memory}

abbrev made_with : ℕ → Multipliers → List ℤ → List (List ℤ) → Made
made_with k multipliers x points = record { put = record { number = k; multipliers = multipliers; x = x }; plan = record { points = points } }

-- a put with its points, by its parts
pub made_is : (run : Run) (k : ℕ) (before next : Multipliers) (points : List (List ℤ)) (x : List ℤ) → x ≡ early_values run points → next ≡ next_of run before x → made_with k next x points ≡ made_from run k before points
made_is run k before next points x e d =
    ap (λ m. made_with k m x points) (d ∙ ap (next_of run before) e) ∙ ap (λ y. made_with k (next_of run before (early_values run points)) y points) e

abbrev with_values : List ℤ → Multipliers
with_values values = record { values = values }

-- multipliers that were moved, cell by cell
pub next_is : (run : Run) (before : Multipliers) (x values : List ℤ) → values ≡ gathered (scenarios run) (λ s. map (moved run before x s) (range_with_len 0 run.nonleaf)) → with_values values ≡ next_of run before x
unfolding next_of
next_is run before x values e = ap with_values e

-- one best point more
pub points_next : (n : ℕ) (problems : ℕ → Problem) (front points : List (List ℤ)) (best : Best) → bests_below n problems ≡ Some front → best_of (problems n) ≡ Some best → points ≡ front ++ best.point ∷ [] → bests_below (n + 1) problems ≡ Some points
points_next n problems front points best e d p = ap (λ k. bests_below k problems) (add-one n) ∙ bests_next n problems front best e d ∙ ap Some (sym p)

-- the value of a best point
pub least_is : (problem : Problem) (best : Best) → best_of problem ≡ Some best → least_of problem ≡ Some best.value
least_is problem best e = ap (λ o. option_map (λ (b : Best). b.value) o) e

-- a scenario that isn't solved ends the search
pub ended_at : (run : Run) (s : ℕ) (fault : FirstFault) → s < scenarios run → HavePoints run s → BestFails run s fault → FirstFails run fault
ended_at run s (Infeasible scenario) there before (same, none) = first_infeasible run s scenario there before same none
ended_at run s (Spent scenario opened) there before (same, all, more) = spent_at run (problem_in run) run.options.budget s scenario opened there before same all more
ended_at run s Memory there before free = tt
