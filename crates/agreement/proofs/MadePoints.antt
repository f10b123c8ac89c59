-- The points of a put are feasible, and its values are theirs in the nonleaf columns.

use Rattle.std.proofs.Common.{arith, refl, sym, ap, subst, ◌∙◌, ◌≡◌, ℕ, zero, suc, ◌+◌, ◌*◌, ◌<◌, List, ℤ, Option, Some, None}
use Rattle.std.specs.Option.{option_and_then, option_map}
use Rattle.base_words.specs.Sums.{number_at}
use Rattle.base_words.proofs.FirstAnswers.{same_some}
use Rattle.boxed_problem.specs.Data.{Problem}
use Rattle.boxed_problem.specs.Optimum.{Feasible, IsFirstLeast}
use Rattle.boxed_problem.specs.Sides.{Filled}
use Rattle.boxed_problem.proofs.Optimal.{best_is}
use Rattle.sp_model.specs.Plans.{point_of}
use Rattle.sp_model.specs.Problems.{problem_in, scenarios}
use Rattle.sp_model.specs.declared.plan.Multipliers.{Multipliers}
use Rattle.sp_model.specs.declared.run.Run.{Run}
use Rattle.sp_model.proofs.ScenarioPoints.{run_filled}
use Rattle.put_words.specs.Hedged.{hedged_in}
use Rattle.put_words.specs.NextMultipliers.{no_multipliers}
use Rattle.put_words.specs.NodeSums.{value_at}
use Rattle.put_words.specs.Puts.{Made, bests_below, early_values, made_from, put_of}
use Rattle.put_words.proofs.Inside.{OverBoxes, hedged_over, points_long}
use Rattle.put_words.proofs.Points.{AreBests, bests_are, firsts_at}

-- a put was made from the best points of problems of the scenarios with other costs
pub record IsMadeOf (run : Run) (made : Made) : Type 0 where
  pub problems : ℕ → Problem
  pub over : OverBoxes run problems
  pub same : (s : ℕ) (x : List ℤ) → Feasible (problems s) x → Feasible (problem_in run s) x
  pub bests : bests_below (scenarios run) problems ≡ Some made.plan.points
  pub values : made.put.x ≡ early_values run made.plan.points

hedged_feasible : (run : Run) (multipliers : Multipliers) (x : List ℤ) (s : ℕ) (y : List ℤ) → Feasible (hedged_in run multipliers x s) y → Feasible (problem_in run s) y
unfolding hedged_in
hedged_feasible run multipliers x s y f = record { inside = f.inside; rows = f.rows }

from_points : (run : Run) (k : ℕ) (before : Multipliers) (problems : ℕ → Problem) (made : Made) → OverBoxes run problems → ((s : ℕ) (x : List ℤ) → Feasible (problems s) x → Feasible (problem_in run s) x) → option_map (made_from run k before) (bests_below (scenarios run) problems) ≡ Some made → IsMadeOf run made
from_points run k before problems made over same e = by_points (bests_below (scenarios run) problems) refl e
  where
    by_points : (o : Option (List (List ℤ))) → bests_below (scenarios run) problems ≡ o → option_map (made_from run k before) o ≡ Some made → IsMadeOf run made
    by_points None p d = absurd (let x = d in cc)
    by_points (Some points) p d = record {
      problems = problems;
      over = over;
      same = same;
      bests = p ∙ ap (λ (m : Made). Some m.plan.points) (same_some d);
      values = subst (λ (m : Made). m.put.x ≡ early_values run m.plan.points) (same_some d) refl;
    }

pub made_of_points : (run : Run) (k : ℕ) (made : Made) → put_of run k ≡ Some made → IsMadeOf run made
unfolding put_of
made_of_points run zero made e = absurd (let x = e in cc)
made_of_points run (suc zero) made e = from_points run 1 (no_multipliers run) (problem_in run) made (λ s. refl) (λ s x f. f) e
made_of_points run (suc (suc k)) made e = by_before (put_of run (suc k)) e
  where
    by_before : (o : Option Made) → option_and_then (λ (before : Made). option_map (made_from run (suc (suc k)) before.put.multipliers) (bests_below (scenarios run) (hedged_in run before.put.multipliers before.put.x))) o ≡ Some made → IsMadeOf run made
    by_before None d = absurd (let x = d in cc)
    by_before (Some before) d = from_points run (suc (suc k)) before.put.multipliers (hedged_in run before.put.multipliers before.put.x) made (hedged_over run before.put.multipliers before.put.x) (hedged_feasible run before.put.multipliers before.put.x) d

module _ (run : Run) (made : Made) (is : IsMadeOf run made) where
  pub points_best : AreBests (scenarios run) is.problems made.plan.points
  points_best = bests_are (scenarios run) is.problems made.plan.points is.bests

  pub points_feasible : (s : ℕ) → s < scenarios run → Feasible (problem_in run s) (point_of made.plan s)
  points_feasible s l =
      let found = points_best.each s l in
      let filled : Filled (is.problems s).columns = subst Filled (sym (is.over s)) (run_filled run) in
      let least : IsFirstLeast (is.problems s) found.0 = best_is (is.problems s) (Some found.0) filled (sym found.1) in
      subst (λ x. Feasible (problem_in run s) x) (sym found.2) (is.same s found.0.point least.feasible)

  pub values_are : (s j : ℕ) → s < scenarios run → j < run.nonleaf → value_at run made.put.x s j ≡ number_at (point_of made.plan s) j
  values_are s j l h =
      ap (λ x. number_at x (s * run.nonleaf + j)) is.values
      ∙ firsts_at run.nonleaf made.plan.points s j (points_long run is.problems made.plan.points is.over points_best) (omega (arith, points_best.long)) h
