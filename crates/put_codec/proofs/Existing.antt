-- Where each scenario has a point, each put is there.
use Rattle.std.proofs.Common.{arith, refl, sym, ap, ◌∙◌, subst, ◌≡◌, ℕ, zero, suc, ◌+◌, ◌<◌, ◌≤◌, List, ℤ, Option, Some, None}
use Rattle.boxed_problem.specs.Data.{Problem}
use Rattle.boxed_problem.specs.Optimum.{Feasible}
use Rattle.boxed_problem.specs.Sides.{Filled}
use Rattle.boxed_problem.proofs.Optimal.{best_is}
use Rattle.sp_model.specs.Problems.{problem_in, scenarios}
use Rattle.sp_model.specs.ScenarioPoints.{HavePoints}
use Rattle.sp_model.specs.declared.run.Run.{Run}
use Rattle.sp_model.proofs.ScenarioPoints.{run_filled}
use Rattle.put_words.specs.Hedged.{hedged_in}
use Rattle.put_words.specs.NextMultipliers.{no_multipliers}
use Rattle.put_words.specs.Puts.{bests_below, Made, made_from, put_of}
use Rattle.put_words.proofs.Following.{put_first, put_next}
use Rattle.put_words.proofs.Inside.{OverBoxes, hedged_over}
use Rattle.put_words.proofs.Points.{bests_none}
use Rattle.sp_model.specs.declared.plan.Multipliers.{Multipliers}

-- problems that all have feasible points have best points
all_bests : (run : Run) (problems : ℕ → Problem) → OverBoxes run problems → ((s : ℕ) → s < scenarios run → (x : List ℤ) × Feasible (problems s) x) → (points : List (List ℤ)) × (bests_below (scenarios run) problems ≡ Some points)
all_bests run problems over points = by_list (bests_below (scenarios run) problems) refl
  where
    by_list : (o : Option (List (List ℤ))) → bests_below (scenarios run) problems ≡ o → (ps : List (List ℤ)) × (bests_below (scenarios run) problems ≡ Some ps)
    by_list None e =
        let off = bests_none (scenarios run) problems e in
        let has = points off.0 off.1 in
        absurd (best_is (problems off.0) None (subst Filled (sym (over off.0)) (run_filled run)) (sym off.2) has.0 has.1)
    by_list (Some ps) e = (ps, e)

-- a hedged problem has the points of its scenario
hedged_point : (run : Run) (multipliers : Multipliers) (x : List ℤ) (s : ℕ) (point : List ℤ) → Feasible (problem_in run s) point → Feasible (hedged_in run multipliers x s) point
unfolding hedged_in
hedged_point run multipliers x s point f = record { inside = f.inside; rows = f.rows }

pub put_there : (run : Run) (k : ℕ) → HavePoints run (scenarios run) → 1 ≤ k → (made : Made) × (put_of run k ≡ Some made)
put_there run zero points l = absurd (omega arith)
put_there run (suc zero) points l =
    let found = all_bests run (problem_in run) (λ s. refl) points in
    (made_from run 1 (no_multipliers run) found.0, put_first run found.0 found.1)
put_there run (suc (suc k)) points l =
    let before = put_there run (suc k) points (omega arith) in
    let m = before.0.put in
    let found = all_bests run (hedged_in run m.multipliers m.x) (hedged_over run m.multipliers m.x) (λ s h. let has = points s h in (has.0, hedged_point run m.multipliers m.x s has.0 has.1)) in
    let next : suc (suc k) ≡ suc k + 1 = omega arith in
    (made_from run (suc k + 1) m.multipliers found.0, ap (put_of run) next ∙ put_next run (suc k) before.0 found.0 before.1 found.1)
