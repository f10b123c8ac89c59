-- The values of a put lie in the boxes of their columns; what holds of multipliers of 0 and stays through each move holds of each put.

use Rattle.std.proofs.Common.{arith, refl, sym, ap, subst, ◌∙◌, ◌≡◌, ℕ, zero, suc, ◌+◌, ◌*◌, ◌<◌, ◌≤◌, List, [], length, get_or, ℤ, pos, ◌≤ℤ◌, Option, Some, None}
use Rattle.std.proofs.lemmas.List.{get_or_default, length-map, length-replicate}
use Rattle.std.proofs.lemmas.List.Elements.{recursion_from_All}
use Rattle.std.specs.List.{AllByRecursion}
use Rattle.std.specs.Option.{option_and_then, option_map}
use Rattle.base_words.specs.Sums.{number_at}
use Rattle.boxed_problem.specs.Data.{Problem}
use Rattle.boxed_problem.specs.Optimum.{IsFirstLeast}
use Rattle.boxed_problem.specs.Points.{InBox}
use Rattle.boxed_problem.specs.Sides.{Filled, side_at}
use Rattle.boxed_problem.proofs.Optimal.{best_is}
use Rattle.sp_model.specs.Changes.{side_of, sides}
use Rattle.run_calls.specs.MultiplierTests.{AreLong}
use Rattle.sp_model.specs.Problems.{problem_in, scenarios}
use Rattle.sp_model.specs.declared.plan.Multipliers.{Multipliers}
use Rattle.sp_model.specs.declared.run.Run.{Run}
use Rattle.sp_model.proofs.ScenarioPoints.{run_filled}
use Rattle.base_words.proofs.FirstAnswers.{same_some}
use Rattle.run_calls.proofs.MostBounds.{early_column}
use Rattle.put_words.specs.Hedged.{hedged_in}
use Rattle.put_words.specs.NextMultipliers.{moved, next_of, no_multipliers}
use Rattle.put_words.specs.NodeSums.{AreInside}
use Rattle.put_words.specs.Puts.{bests_below, early_values, Made, made_from, put_of}
use Rattle.put_words.proofs.Cells.{cells_length}
use Rattle.put_words.proofs.Points.{AreBests, bests_are, firsts_at, firsts_length}

-- problems over the boxes of a run
abbrev pub OverBoxes : Run → (ℕ → Problem) → Type 0
OverBoxes run problems = (s : ℕ) → (problems s).columns ≡ sides run.program

pub hedged_over : (run : Run) (multipliers : Multipliers) (x : List ℤ) → OverBoxes run (hedged_in run multipliers x)
unfolding hedged_in
hedged_over run multipliers x s = refl

-- the best point of a scenario lies in the boxes
best_inside : (run : Run) (problems : ℕ → Problem) (points : List (List ℤ)) (s : ℕ) → OverBoxes run problems → AreBests (scenarios run) problems points → s < scenarios run → InBox (sides run.program) (get_or points s [])
best_inside run problems points s over bests l =
    let found = bests.each s l in
    let filled : Filled (problems s).columns = subst Filled (sym (over s)) (run_filled run) in
    let is : IsFirstLeast (problems s) found.0 = best_is (problems s) (Some found.0) filled (sym found.1) in
    let inside : InBox (sides run.program) found.0.point = subst (λ box. InBox box found.0.point) (over s) is.feasible.inside in
    subst (λ x. InBox (sides run.program) x) (sym found.2) inside

few_from_below : (n m : ℕ) → ((j : ℕ) → j < n → j < m) → n ≤ m
few_from_below zero m h = omega arith
few_from_below (suc n) m h = let l = h n (omega arith) in omega arith

-- there are no more nonleaf columns than columns
nonleaf_few : (run : Run) → run.nonleaf ≤ length run.program.columns
nonleaf_few run = few_from_below run.nonleaf (length run.program.columns) (early_column run)

point_long : (run : Run) (problems : ℕ → Problem) (points : List (List ℤ)) (k : ℕ) (d : List ℤ) → OverBoxes run problems → AreBests (scenarios run) problems points → k < length points → run.nonleaf ≤ length (get_or points k d)
point_long run problems points k d over bests h =
    let inside = best_inside run problems points k over bests (omega (arith, bests.long)) in
    let same = ap length (get_or_default points k d [] h) in
    omega (arith, same, inside.long, length-map run.program.columns side_of, nonleaf_few run)

pub points_long : (run : Run) (problems : ℕ → Problem) (points : List (List ℤ)) → OverBoxes run problems → AreBests (scenarios run) problems points → AllByRecursion (λ x. run.nonleaf ≤ length x) points
points_long run problems points over bests = recursion_from_All (λ x. run.nonleaf ≤ length x) points (λ k d h. point_long run problems points k d over bests h)

-- the values of best points in the nonleaf columns lie in the boxes
pub values_inside : (run : Run) (problems : ℕ → Problem) (points : List (List ℤ)) → OverBoxes run problems → AreBests (scenarios run) problems points → AreInside run (early_values run points)
values_inside run problems points over bests =
    let m = run.nonleaf in
    let long = points_long run problems points over bests in
    let at : (s j : ℕ) → s < scenarios run → j < m → number_at (early_values run points) (s * m + j) ≡ number_at (get_or points s []) j = λ s j l h. firsts_at m points s j long (omega (arith, bests.long)) h in
    let wide : (j : ℕ) → j < m → j < length (sides run.program) = λ j h. omega (arith, early_column run j h, length-map run.program.columns side_of) in
    record {
      long = firsts_length m points long ∙ ap (λ n. n * m) bests.long;
      lower = λ s j l h. subst (λ v. (side_at (sides run.program) j).lower ≤ℤ v) (sym (at s j l h)) ((best_inside run problems points s over bests l).lower j (wide j h));
      upper = λ s j l h. subst (λ v. v ≤ℤ (side_at (sides run.program) j).upper) (sym (at s j l h)) ((best_inside run problems points s over bests l).upper j (wide j h));
    }

-- what a put was made from
pub record IsMade (run : Run) (k : ℕ) (before : Multipliers) (made : Made) : Type 0 where
  pub points : List (List ℤ)
  pub made_is : made_from run k before points ≡ made
  pub inside : AreInside run (early_values run points)

from_points : (run : Run) (k : ℕ) (before : Multipliers) (problems : ℕ → Problem) (made : Made) → OverBoxes run problems → option_map (made_from run k before) (bests_below (scenarios run) problems) ≡ Some made → IsMade run k before made
from_points run k before problems made over e = by_points (bests_below (scenarios run) problems) refl e
  where
    by_points : (o : Option (List (List ℤ))) → bests_below (scenarios run) problems ≡ o → option_map (made_from run k before) o ≡ Some made → IsMade run k before made
    by_points None p d = absurd (let x = d in cc)
    by_points (Some points) p d = record { points = points; made_is = same_some d; inside = values_inside run problems points over (bests_are (scenarios run) problems points p) }

-- each put was made from some points of the multipliers before it
pub put_is : (run : Run) (k : ℕ) (made : Made) → put_of run k ≡ Some made → (before : Multipliers) × IsMade run k before made
unfolding put_of
put_is run zero made e = absurd (let x = e in cc)
put_is run (suc zero) made e = (no_multipliers run, from_points run 1 (no_multipliers run) (problem_in run) made (λ s. refl) e)
put_is run (suc (suc k)) made e = by_before (put_of run (suc k)) e
  where
    by_before : (o : Option Made) → option_and_then (λ (before : Made). option_map (made_from run (suc (suc k)) before.put.multipliers) (bests_below (scenarios run) (hedged_in run before.put.multipliers before.put.x))) o ≡ Some made → (before : Multipliers) × IsMade run (suc (suc k)) before made
    by_before None d = absurd (let x = d in cc)
    by_before (Some before) d = (before.put.multipliers, from_points run (suc (suc k)) before.put.multipliers (hedged_in run before.put.multipliers before.put.x) made (hedged_over run before.put.multipliers before.put.x) d)

-- what holds of multipliers of 0 and stays through each move holds of the multipliers of each put
pub each_put : (run : Run) (P : ℕ → Multipliers → Type 0) → P 0 (no_multipliers run) → ((k : ℕ) (multipliers : Multipliers) (x : List ℤ) → AreInside run x → P k multipliers → P (suc k) (next_of run multipliers x)) → (k : ℕ) (made : Made) → put_of run k ≡ Some made → P k made.put.multipliers
unfolding put_of
each_put run P base step zero made e = absurd (let x = e in cc)
each_put run P base step (suc zero) made e =
    let is = from_points run 1 (no_multipliers run) (problem_in run) made (λ s. refl) e in
    subst (λ (n : Made). P 1 n.put.multipliers) is.made_is (step 0 (no_multipliers run) (early_values run is.points) is.inside base)
each_put run P base step (suc (suc k)) made e = by_before (put_of run (suc k)) refl e (λ before p. each_put run P base step (suc k) before p)
  where
    by_before : (o : Option Made) → put_of run (suc k) ≡ o → option_and_then (λ (before : Made). option_map (made_from run (suc (suc k)) before.put.multipliers) (bests_below (scenarios run) (hedged_in run before.put.multipliers before.put.x))) o ≡ Some made → ((before : Made) → put_of run (suc k) ≡ Some before → P (suc k) before.put.multipliers) → P (suc (suc k)) made.put.multipliers
    by_before None p d r = absurd (let x = d in cc)
    by_before (Some before) p d r =
        let is = from_points run (suc (suc k)) before.put.multipliers (hedged_in run before.put.multipliers before.put.x) made (hedged_over run before.put.multipliers before.put.x) d in
        subst (λ (n : Made). P (suc (suc k)) n.put.multipliers) is.made_is (step (suc k) before.put.multipliers (early_values run is.points) is.inside (r before p))

pub put_number : (run : Run) (k : ℕ) (made : Made) → put_of run k ≡ Some made → made.put.number ≡ k
put_number run k made e =
    let is = put_is run k made e in
    ap (λ (n : Made). n.put.number) (sym is.1.made_is)

pub put_inside : (run : Run) (k : ℕ) (made : Made) → put_of run k ≡ Some made → AreInside run made.put.x
put_inside run k made e =
    let is = put_is run k made e in
    subst (λ (n : Made). AreInside run n.put.x) is.1.made_is is.1.inside

next_long : (run : Run) (multipliers : Multipliers) (x : List ℤ) → AreLong run (next_of run multipliers x)
unfolding next_of
next_long run multipliers x = cells_length (scenarios run) run.nonleaf (moved run multipliers x)

pub put_long : (run : Run) (k : ℕ) (made : Made) → put_of run k ≡ Some made → AreLong run made.put.multipliers
put_long run k made e = each_put run (λ n multipliers. AreLong run multipliers) (length-replicate (scenarios run * run.nonleaf) (pos 0)) (λ n multipliers x inside old. next_long run multipliers x) k made e
