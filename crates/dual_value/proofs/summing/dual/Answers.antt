use Rattle.std.proofs.Common.{rules, arith, sym, ap, ◌∙◌, ◌≡◌, ℕ, ◌+◌, ◌<◌, ◌≤◌, ℤ, ◌+ℤ◌, to_z, FitsSigned, Option, Some}
use Rattle.std.proofs.lemmas.Int.{to_z-of_z}
use Rattle.std.specs.Int.{w128}
use Rattle.base_words.proofs.Magnitudes.{fits_from_abs}
use Rattle.sp_model.specs.Plans.{dual_of}
use Rattle.sp_model.specs.Problems.{least_of, scenarios, sum_some}
use Rattle.put_words.proofs.Bounded.{dual_small}
use Rattle.dual_value.specs.Duals.{priced_in}
use Rattle.sp_model.proofs.ScenarioPoints.{points_more}
use Rattle.sp_model.proofs.SumSome.{sum_more}
use Rattle.dual_value.proofs.PricedSums.{ended_at, point_of}
use Rattle.dual_value.proofs.summing.dual.Goals as goal

pub returns-in-Err-clause-err : goal.returns-in-Err-clause-err
returns-in-Err-clause-err c =
    let run = c.args.run.now in
    let there : c.loop-scenario.scenario < scenarios run = omega (arith, c.len-scenario-end.ensures, c.loop-scenario-test.true) in
    ended_at run c.args.multipliers.now c.args.budget c.loop-scenario.scenario c.in-Err.fault there c.loop-scenario.invariant.before c.in-Err.ensures.err

pub plus-sum-requires : goal.plus-sum-requires
plus-sum-requires c =
    let run = c.args.run.now in
    let multipliers = c.args.multipliers.now in
    let k = c.loop-scenario.scenario in
    let there : k + 1 ≤ scenarios run = omega (arith, c.len-scenario-end.ensures, c.loop-scenario-test.true) in
    let f : ℕ → Option ℤ = λ s. least_of (priced_in run multipliers s) in
    let fv : FitsSigned w128 c.in-Ok.value = search rules in
    let whole = to_z w128 c.loop-scenario.sum-bits +ℤ c.in-Ok.value in
    let next = sum_more f k (to_z w128 c.loop-scenario.sum-bits) c.in-Ok.value c.loop-scenario.invariant.sum c.in-Ok.ensures.ok in
    let small = dual_small run multipliers (k + 1) whole c.requires.sized there next in
    simp to_z-of_z (fits_from_abs whole (omega (arith, small)))

pub loop-scenario-preserved : goal.loop-scenario-preserved
loop-scenario-preserved c =
    let run = c.args.run.now in
    let multipliers = c.args.multipliers.now in
    let k = c.loop-scenario.scenario in
    let f : ℕ → Option ℤ = λ s. least_of (priced_in run multipliers s) in
    let fv : FitsSigned w128 c.in-Ok.value = search rules in
    let fp : FitsSigned w128 c.plus-sum.result = search rules in
    let whole : c.plus-sum.result ≡ (to_z w128 c.loop-scenario.sum-bits +ℤ c.in-Ok.value) = simp to_z-of_z at c.plus-sum.ensures in
    record {
      sum = simp to_z-of_z (sum_more f k (to_z w128 c.loop-scenario.sum-bits) c.in-Ok.value c.loop-scenario.invariant.sum c.in-Ok.ensures.ok ∙ ap Some (sym whole));
      before = points_more run k c.loop-scenario.invariant.before (point_of run multipliers k c.in-Ok.value c.in-Ok.ensures.ok);
    }

pub returns-clause-ok : goal.returns-clause-ok
unfolding dual_of
returns-clause-ok c =
    let run = c.args.run.now in
    let all : scenarios run ≡ c.loop-scenario.scenario = omega (arith, c.len-scenario-end.ensures, c.loop-scenario-test.false, c.loop-scenario.auto.scenario-end) in
    ap (λ n. sum_some n (λ s. least_of (priced_in run c.args.multipliers.now s))) all ∙ c.loop-scenario.invariant.sum
