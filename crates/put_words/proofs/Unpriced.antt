-- Multipliers of 0 price nothing, and no multipliers make a feasible point of none.

use Rattle.std.proofs.Common.{arith, refl, sym, ap, ◌∙◌, ◌≡◌, ℕ, zero, suc, ◌<◌, List, length, ℤ, pos, ◌+ℤ◌, Option, Some, None}
use Rattle.std.proofs.lemmas.Int.{ints}
use Rattle.std.proofs.lemmas.List.{length-map}
use Rattle.std.proofs.lemmas.List.FromFn.{fill_by_all}
use Rattle.std.specs.Option.{option_and_then, option_map}
use Rattle.base_words.specs.Sums.{number_at}
use Rattle.boxed_problem.proofs.Optimal.{best_is}
use Rattle.boxed_problem.proofs.SameData.{same_data}
use Rattle.sp_model.specs.Changes.{side_of, sides}
use Rattle.sp_model.specs.Plans.{dual_of, IsPlan, multiplier_of, point_of, with_prices}
use Rattle.sp_model.specs.Problems.{least_of, problem_in, scenarios, sum_some, wait_and_see_of}
use Rattle.sp_model.specs.declared.plan.Multipliers.{Multipliers}
use Rattle.sp_model.specs.declared.plan.Plan.{Plan}
use Rattle.sp_model.specs.declared.run.Run.{Run}
use Rattle.sp_model.proofs.ScenarioPoints.{run_filled}
use Rattle.sp_model.proofs.Duality.{none_feasible}
use Rattle.sp_model.proofs.SumSome.{sum_some-none}
use Rattle.put_words.specs.Hedged.{hedged_in}
use Rattle.put_words.specs.NextMultipliers.{no_multipliers}
use Rattle.put_words.specs.Puts.{bests_below, Made, made_from, put_of}
use Rattle.sp_model.specs.ScenarioPoints.{HavePoints}
use Rattle.put_words.proofs.Moves.{nothing_at}
use Rattle.put_words.proofs.Points.{bests_are}
use Rattle.put_words.proofs.Spans.{costs_long}

-- a problem with prices of 0 is the problem
unpriced : (run : Run) (s : ℕ) → s < scenarios run → with_prices (problem_in run s) (multiplier_of run (no_multipliers run) s) ≡ problem_in run s
unpriced run s l =
    let p = problem_in run s in
    let prices : ℕ → ℤ = multiplier_of run (no_multipliers run) s in
    let long : length p.line ≡ length (sides run.program) = costs_long run s l ∙ sym (length-map run.program.columns side_of) in
    let line = fill_by_all (λ j. number_at p.line j +ℤ prices j) p.line (length (sides run.program)) (pos 0) long (λ k h. omega (arith, ints, nothing_at run s k)) in
    same_data (with_prices p prices) p refl refl refl refl (sym line) refl

sum_some-same : (n : ℕ) (f g : ℕ → Option ℤ) → ((k : ℕ) → k < n → f k ≡ g k) → sum_some n f ≡ sum_some n g
sum_some-same zero f g h = refl
sum_some-same (suc n) f g h =
    ap (λ t. option_and_then (λ sum. option_map (λ least. sum +ℤ least) t) (sum_some n f)) (h n (omega arith))
    ∙ ap (λ s. option_and_then (λ sum. option_map (λ least. sum +ℤ least) (g n)) s) (sum_some-same n f g (λ k l. h k (omega arith)))

pub dual_of_nothing : (run : Run) → dual_of run (no_multipliers run) ≡ wait_and_see_of run
unfolding dual_of wait_and_see_of
dual_of_nothing run = sum_some-same (scenarios run) (λ s. least_of (with_prices (problem_in run s) (multiplier_of run (no_multipliers run) s))) (λ s. least_of (problem_in run s)) (λ s l. ap least_of (unpriced run s l))

-- no dual value: some scenario has no feasible point, and so there is no plan
pub dual_none : (run : Run) (multipliers : Multipliers) → dual_of run multipliers ≡ None → (plan : Plan) → IsPlan run plan → ⊥
unfolding dual_of
dual_none run multipliers e plan is =
    let found = sum_some-none (scenarios run) (λ s. least_of (with_prices (problem_in run s) (multiplier_of run multipliers s))) e in
    let feasible = is.feasible found.0 found.1 in
    none_feasible (with_prices (problem_in run found.0) (multiplier_of run multipliers found.0)) (run_filled run) found.2 (point_of plan found.0) (record { inside = feasible.inside; rows = feasible.rows })

-- best points are feasible points
pub points_before : (run : Run) (n : ℕ) (points : List (List ℤ)) → bests_below n (problem_in run) ≡ Some points → HavePoints run n
points_before run n points e u l =
    let found = (bests_are n (problem_in run) points e).each u l in
    let is = best_is (problem_in run u) (Some found.0) (run_filled run) (sym found.1) in
    (found.0.point, is.feasible)

-- where there is a put, each scenario has a feasible point
first_points : (run : Run) (made : Made) → put_of run 1 ≡ Some made → HavePoints run (scenarios run)
unfolding put_of
first_points run made e = by_points (bests_below (scenarios run) (problem_in run)) refl e
  where
    by_points : (o : Option (List (List ℤ))) → bests_below (scenarios run) (problem_in run) ≡ o → option_map (made_from run 1 (no_multipliers run)) o ≡ Some made → HavePoints run (scenarios run)
    by_points None p d = absurd (let x = d in cc)
    by_points (Some points) p d = points_before run (scenarios run) points p

pub put_points : (run : Run) (k : ℕ) (made : Made) → put_of run k ≡ Some made → HavePoints run (scenarios run)
unfolding put_of
put_points run zero made e = absurd (let x = e in cc)
put_points run (suc zero) made e = first_points run made e
put_points run (suc (suc k)) made e = by_before (put_of run (suc k)) refl e (λ before p. put_points run (suc k) before p)
  where
    by_before : (o : Option Made) → put_of run (suc k) ≡ o → option_and_then (λ (before : Made). option_map (made_from run (suc (suc k)) before.put.multipliers) (bests_below (scenarios run) (hedged_in run before.put.multipliers before.put.x))) o ≡ Some made → ((before : Made) → put_of run (suc k) ≡ Some before → HavePoints run (scenarios run)) → HavePoints run (scenarios run)
    by_before None p d r = absurd (let x = d in cc)
    by_before (Some before) p d r = r before p
