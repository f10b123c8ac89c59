-- Put k by recursion on k: multipliers, and the points that they were made from.

use Rattle.std.specs.Prelude.{ℕ, zero, suc, List, [], ◌∷◌, ◌++◌, ℤ, take, Option, Some, None, option_map, option_and_then}
use Rattle.std.specs.List.{flat_map}
use Rattle.boxed_problem.specs.Data.{Problem}
use Rattle.boxed_problem.specs.Optimum.{best_of}
use Rattle.boxed_problem.specs.declared.parts.Best.{Best}
use Rattle.sp_model.specs.Problems.{problem_in, scenarios}
use Rattle.sp_model.specs.declared.plan.Multipliers.{Multipliers}
use Rattle.sp_model.specs.declared.plan.Plan.{Plan}
use Rattle.run_calls.specs.declared.put.Put.{Put}
use Rattle.sp_model.specs.declared.run.Run.{Run}
use Rattle.put_words.specs.Hedged.{hedged_in}
use Rattle.put_words.specs.NextMultipliers.{next_of, no_multipliers}

-- the best points of problems 0 to n - 1, in order; none where one has no feasible point
abbrev pub bests_below : ℕ → (ℕ → Problem) → Option (List (List ℤ))
bests_below zero problems = Some []
bests_below (suc n) problems = option_and_then
    (λ front. option_map (λ (best : Best). front ++ best.point ∷ []) (best_of (problems n)))
    (bests_below n problems)

-- a put with the points of all scenarios that it was made from
pub record Made : Type 0 where
  pub put : Put
  pub plan : Plan

-- the values of points in the nonleaf columns, which are the first ones, scenario after scenario
abbrev pub early_values : Run → List (List ℤ) → List ℤ
early_values run points = flat_map (λ point. take run.nonleaf point) points

-- put number k: multipliers that were moved by the values of some points
abbrev pub made_from : Run → ℕ → Multipliers → List (List ℤ) → Made
made_from run k multipliers points = record {
  put = record {
    number = k;
    multipliers = next_of run multipliers (early_values run points);
    x = early_values run points;
  };
  plan = record { points = points };
}

-- put k. The first one is made from the best points of all scenarios and multipliers of 0, each
-- later one from the best points of the hedged problems of the put before and its multipliers; none
-- where a scenario has no feasible point
unfoldable pub put_of : Run → ℕ → Option Made
put_of run zero = None
put_of run (suc zero) =
    option_map (made_from run 1 (no_multipliers run)) (bests_below (scenarios run) (problem_in run))
put_of run (suc (suc k)) =
    option_and_then (λ (before : Made). option_map
    (made_from run (suc (suc k)) before.put.multipliers)
    (bests_below (scenarios run) (hedged_in run before.put.multipliers before.put.x)))
    (put_of run (suc k))
