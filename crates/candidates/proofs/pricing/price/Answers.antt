use Rattle.std.proofs.Common.{rules, arith, refl, sym, ap, ◌∙◌, ◌≡◌, ◌+◌, ◌<◌, ◌≤◌, [], ◌∷◌, ◌++◌, length, ◌+ℤ◌, to_z, FitsSigned, Some}
use Rattle.std.proofs.lemmas.Int.{to_z-of_z}
use Rattle.std.proofs.lemmas.List.{length-append}
use Rattle.std.specs.Int.{w128}
use Rattle.base_words.specs.Sums.{sum_below}
use Rattle.sp_model.specs.Problems.{scenarios}
use Rattle.candidates.specs.Values.{given}
use Rattle.candidates.proofs.Costing.{all_best, best_plan, best_price, ended_at, have_points, point_next, sum_fits, sum_next, value_in}
use Rattle.candidates.proofs.pricing.price.Goals as goal

pub returns-in-Err-clause-err : goal.returns-in-Err-clause-err
returns-in-Err-clause-err c =
    let run = c.args.run.now in
    let values = given run c.args.candidate.now in
    let k = c.loop-scenario.scenario in
    let there : k < scenarios run = omega (arith, c.len-scenario-end.ensures, c.loop-scenario-test.true) in
    ended_at run values c.args.budget k c.in-Err.fault there (have_points run values k c.loop-scenario.points c.loop-scenario.invariant.best) c.in-Err.ensures.err

pub plus-sum-requires : goal.plus-sum-requires
plus-sum-requires c =
    let run = c.args.run.now in
    let values = given run c.args.candidate.now in
    let k = c.loop-scenario.scenario in
    let front = c.loop-scenario.points in
    let x = c.in-Ok.best.point in
    let there : k + 1 ≤ scenarios run = omega (arith, c.len-scenario-end.ensures, c.loop-scenario-test.true) in
    let fv : FitsSigned w128 c.in-Ok.best.value = search rules in
    let next = sum_next run k front (front ++ x ∷ []) x (to_z w128 c.loop-scenario.sum-bits) c.in-Ok.best.value c.loop-scenario.invariant.long refl c.loop-scenario.invariant.sum c.in-Ok.ensures.value in
    let points = point_next run values k front (front ++ x ∷ []) x c.loop-scenario.invariant.long refl c.loop-scenario.invariant.best c.in-Ok.ensures.point in
    simp to_z-of_z (rw next (sum_fits run values (k + 1) (front ++ x ∷ []) points there))

pub loop-scenario-preserved : goal.loop-scenario-preserved
loop-scenario-preserved c =
    let run = c.args.run.now in
    let values = given run c.args.candidate.now in
    let k = c.loop-scenario.scenario in
    let front = c.loop-scenario.points in
    let x = c.in-Ok.best.point in
    let fv : FitsSigned w128 c.in-Ok.best.value = search rules in
    let fp : FitsSigned w128 c.plus-sum.result = search rules in
    let whole : c.plus-sum.result ≡ (to_z w128 c.loop-scenario.sum-bits +ℤ c.in-Ok.best.value) = simp to_z-of_z at c.plus-sum.ensures in
    record {
      long = omega (arith, ap length c.in-Ok-push.ensures.ok, length-append front (x ∷ []), c.loop-scenario.invariant.long);
      best = point_next run values k front c.push.new.self x c.loop-scenario.invariant.long c.in-Ok-push.ensures.ok c.loop-scenario.invariant.best c.in-Ok.ensures.point;
      sum = simp to_z-of_z (whole ∙ sum_next run k front c.push.new.self x (to_z w128 c.loop-scenario.sum-bits) c.in-Ok.best.value c.loop-scenario.invariant.long c.in-Ok-push.ensures.ok c.loop-scenario.invariant.sum c.in-Ok.ensures.value);
    }

pub returns-clause-under : goal.returns-clause-under
returns-clause-under c =
    let run = c.args.run.now in
    let all : c.loop-scenario.scenario ≡ scenarios run = omega (arith, c.len-scenario-end.ensures, c.loop-scenario-test.false, c.loop-scenario.auto.scenario-end) in
    all_best run (given run c.args.candidate.now) c.loop-scenario.scenario c.loop-scenario.points all c.loop-scenario.invariant.long c.loop-scenario.invariant.best

pub returns-clause-plan : goal.returns-clause-plan
returns-clause-plan c = best_plan c.args.run.now c.args.candidate.now _ c.requires.agreed (returns-clause-under c)

pub returns-clause-cost : goal.returns-clause-cost
returns-clause-cost c =
    let run = c.args.run.now in
    let all : c.loop-scenario.scenario ≡ scenarios run = omega (arith, c.len-scenario-end.ensures, c.loop-scenario-test.false, c.loop-scenario.auto.scenario-end) in
    c.loop-scenario.invariant.sum ∙ ap (λ n. sum_below n (value_in run c.loop-scenario.points)) all

pub returns-clause-price : goal.returns-clause-price
returns-clause-price c = best_price c.args.run.now (given c.args.run.now c.args.candidate.now) _ (returns-clause-under c) ∙ ap Some (sym (returns-clause-cost c))
