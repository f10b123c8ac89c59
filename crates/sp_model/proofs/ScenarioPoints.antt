-- The boxes of a run aren't empty; one more scenario with a feasible point.

use Rattle.std.proofs.Common.{arith, ◌≡◌, ℕ, ◌+◌, ◌<◌, ◌≤◌, ◌⊎◌, inl, inr, List, ℤ, ◌≤ℤ◌, subst, sym}
use Rattle.std.proofs.lemmas.Bool.{cases_lt}
use Rattle.std.proofs.lemmas.List.Elements.{All-map, recursion_from_All}
use Rattle.boxed_problem.specs.Optimum.{Feasible}
use Rattle.boxed_problem.specs.Sides.{Filled}
use Rattle.boxed_problem.specs.declared.parts.Side.{Side}
use Rattle.sp_model.specs.Changes.{side_of, sides}
use Rattle.sp_model.specs.Problems.{problem_in, scenarios}
use Rattle.sp_model.specs.ScenarioPoints.{HasPoint, HavePoints, IsFirstInfeasible}
use Rattle.sp_model.specs.declared.run.Run.{Run}

-- no box of a run is empty
pub run_filled : (run : Run) → Filled (sides run.program)
run_filled run = recursion_from_All (λ (s : Side). s.lower ≤ℤ s.upper) (sides run.program) (All-map (λ (s : Side). s.lower ≤ℤ s.upper) side_of run.program.columns (λ k d l. (run.facts.stages.columns k d l).filled))

-- each scenario before the next one has a point
pub points_more : (run : Run) (s : ℕ) → HavePoints run s → HasPoint run s → HavePoints run (s + 1)
points_more run s before has t l = by_place (cases_lt t s)
  where
    by_place : (t < s) ⊎ (s ≤ t) → HasPoint run t
    by_place (inl less) = before t less
    by_place (inr more) = let same : s ≡ t = omega arith in subst (HasPoint run) same has

-- a scenario without a feasible point, where each earlier one has one
pub first_infeasible : (run : Run) (s scenario : ℕ) → s < scenarios run → HavePoints run s → scenario ≡ s → ((x : List ℤ) → Feasible (problem_in run s) x → ⊥) → IsFirstInfeasible run scenario
first_infeasible run s scenario there before same none = subst (IsFirstInfeasible run) (sym same) (record { there = there; none = none; before = before })
