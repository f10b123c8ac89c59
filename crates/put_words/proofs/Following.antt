-- How puts follow one another, from the best points.

use Rattle.std.proofs.Common.{arith, sym, ap, ◌∙◌, ◌≡◌, ℕ, zero, suc, ◌+◌, ◌*◌, ◌≤◌, List, length, ℤ, pos, unsigned_abs, Some}
use Rattle.std.specs.List.{All}
use Rattle.std.specs.Option.{option_and_then, option_map}
use Rattle.std.proofs.lemmas.List.{length-replicate}
use Rattle.std.proofs.lemmas.List.Elements.{All-from_recursion}
use Rattle.boxed_problem.specs.Data.{Problem}
use Rattle.run_calls.specs.MultiplierTests.{AreLong, AreSized}
use Rattle.sp_model.specs.Plans.{multiplier_of}
use Rattle.sp_model.specs.Problems.{problem_in, scenarios}
use Rattle.sp_model.specs.declared.run.Run.{Run}
use Rattle.put_words.specs.Hedged.{hedged_in}
use Rattle.put_words.specs.NextMultipliers.{no_multipliers}
use Rattle.put_words.specs.NodeSums.{AreInside}
use Rattle.put_words.specs.Puts.{bests_below, early_values, Made, made_from, put_of}
use Rattle.put_words.proofs.Inside.{OverBoxes, points_long, values_inside}
use Rattle.put_words.proofs.Moves.{nothing_at}
use Rattle.put_words.proofs.Points.{bests_are}

pub put_first : (run : Run) (points : List (List ℤ)) → bests_below (scenarios run) (problem_in run) ≡ Some points → put_of run 1 ≡ Some (made_from run 1 (no_multipliers run) points)
unfolding put_of
put_first run points e = ap (λ o. option_map (made_from run 1 (no_multipliers run)) o) e

-- put k + 1 from put k
pub put_next : (run : Run) (k : ℕ) (before : Made) (points : List (List ℤ)) → put_of run k ≡ Some before → bests_below (scenarios run) (hedged_in run before.put.multipliers before.put.x) ≡ Some points → put_of run (k + 1) ≡ Some (made_from run (k + 1) before.put.multipliers points)
unfolding put_of
put_next run zero before points e d = absurd (let x = e in cc)
put_next run (suc k) before points e d =
    let next : suc k + 1 ≡ suc (suc k) = omega arith in
    ap (put_of run) next
    ∙ ap (λ o. option_and_then (λ (b : Made). option_map (made_from run (suc (suc k)) b.put.multipliers) (bests_below (scenarios run) (hedged_in run b.put.multipliers b.put.x))) o) e
    ∙ ap (λ o. option_map (made_from run (suc (suc k)) before.put.multipliers) o) d
    ∙ ap (λ n. Some (made_from run n before.put.multipliers points)) (sym next)

-- multipliers of 0 are small enough
pub nothing_sized : (run : Run) → AreSized run (no_multipliers run)
nothing_sized run s j l h =
    let none : unsigned_abs (multiplier_of run (no_multipliers run) s j) ≡ 0 = ap unsigned_abs (nothing_at run s j) in
    omega arith

pub nothing_long : (run : Run) → AreLong run (no_multipliers run)
nothing_long run = length-replicate (scenarios run * run.nonleaf) (pos 0)

-- best points have a value for each nonleaf column, and the values lie in the boxes
pub bests_wide : (run : Run) (problems : ℕ → Problem) (points : List (List ℤ)) → OverBoxes run problems → bests_below (scenarios run) problems ≡ Some points → All (λ p. run.nonleaf ≤ length p) points
bests_wide run problems points over e = All-from_recursion (λ p. run.nonleaf ≤ length p) points (points_long run problems points over (bests_are (scenarios run) problems points e))

pub bests_inside : (run : Run) (problems : ℕ → Problem) (points : List (List ℤ)) → OverBoxes run problems → bests_below (scenarios run) problems ≡ Some points → AreInside run (early_values run points)
bests_inside run problems points over e = values_inside run problems points over (bests_are (scenarios run) problems points e)
