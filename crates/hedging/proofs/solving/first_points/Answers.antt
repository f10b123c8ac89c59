use Rattle.std.proofs.Common.{rules, arith, sym, ap, ◌∙◌, ◌≡◌, ℕ, ◌+◌, ◌<◌, ◌≤◌, ℤ, ◌+ℤ◌, to_z, FitsSigned, Option, Some}
use Rattle.std.proofs.lemmas.Int.{to_z-of_z}
use Rattle.std.specs.Int.{w128}
use Rattle.base_words.proofs.Magnitudes.{fits_from_abs}
use Rattle.sp_model.specs.Problems.{least_of, problem_in, scenarios, sum_some, wait_and_see_of}
use Rattle.put_words.specs.Puts.{bests_below}
use Rattle.sp_model.proofs.LeastSums.{wait_small}
use Rattle.sp_model.proofs.SumSome.{sum_more}
use Rattle.put_words.proofs.Unpriced.{points_before}
use Rattle.hedging.proofs.Makings.{ended_at, least_is, points_next}
use Rattle.hedging.proofs.solving.first_points.Goals as goal

pub returns-in-Err-clause-err : goal.returns-in-Err-clause-err
returns-in-Err-clause-err c =
    let run = c.args.run.now in
    let k = c.loop-scenario.scenario in
    let there : k < scenarios run = omega (arith, c.len-scenario-end.ensures, c.loop-scenario-test.true) in
    ended_at run k c.in-Err.fault there (points_before run k c.loop-scenario.points c.loop-scenario.invariant.points) c.in-Err.ensures.err

pub plus-bound-requires : goal.plus-bound-requires
plus-bound-requires c =
    let run = c.args.run.now in
    let k = c.loop-scenario.scenario in
    let there : k + 1 ≤ scenarios run = omega (arith, c.len-scenario-end.ensures, c.loop-scenario-test.true) in
    let f : ℕ → Option ℤ = λ s. least_of (problem_in run s) in
    let fv : FitsSigned w128 c.in-Ok.best.value = search rules in
    let whole = to_z w128 c.loop-scenario.bound-bits +ℤ c.in-Ok.best.value in
    let next = sum_more f k (to_z w128 c.loop-scenario.bound-bits) c.in-Ok.best.value c.loop-scenario.invariant.sum (least_is (problem_in run k) c.in-Ok.best c.in-Ok.ensures.ok) in
    let small = wait_small run (k + 1) whole there next in
    simp to_z-of_z (fits_from_abs whole (omega (arith, small)))

pub loop-scenario-preserved : goal.loop-scenario-preserved
loop-scenario-preserved c =
    let run = c.args.run.now in
    let k = c.loop-scenario.scenario in
    let f : ℕ → Option ℤ = λ s. least_of (problem_in run s) in
    let fv : FitsSigned w128 c.in-Ok.best.value = search rules in
    let fp : FitsSigned w128 c.plus-bound.result = search rules in
    let whole : c.plus-bound.result ≡ (to_z w128 c.loop-scenario.bound-bits +ℤ c.in-Ok.best.value) = simp to_z-of_z at c.plus-bound.ensures in
    record {
      points = points_next k (problem_in run) c.loop-scenario.points c.push.new.self c.in-Ok.best c.loop-scenario.invariant.points c.in-Ok.ensures.ok c.in-Ok-push.ensures.ok;
      sum = simp to_z-of_z (sum_more f k (to_z w128 c.loop-scenario.bound-bits) c.in-Ok.best.value c.loop-scenario.invariant.sum (least_is (problem_in run k) c.in-Ok.best c.in-Ok.ensures.ok) ∙ ap Some (sym whole));
    }

pub returns-clause-points : goal.returns-clause-points
returns-clause-points c =
    let run = c.args.run.now in
    let all : scenarios run ≡ c.loop-scenario.scenario = omega (arith, c.len-scenario-end.ensures, c.loop-scenario-test.false, c.loop-scenario.auto.scenario-end) in
    ap (λ n. bests_below n (problem_in run)) all ∙ c.loop-scenario.invariant.points

pub returns-clause-bound : goal.returns-clause-bound
unfolding wait_and_see_of
returns-clause-bound c =
    let run = c.args.run.now in
    let all : scenarios run ≡ c.loop-scenario.scenario = omega (arith, c.len-scenario-end.ensures, c.loop-scenario-test.false, c.loop-scenario.auto.scenario-end) in
    ap (λ n. sum_some n (λ s. least_of (problem_in run s))) all ∙ c.loop-scenario.invariant.sum
