use Rattle.std.proofs.Common.{rules, arith, ap, ◌∙◌, ◌+◌, ◌≡◌, ◌<◌, to_z, ◌+ℤ◌, FitsSigned}
use Rattle.std.proofs.lemmas.Int.{to_z-of_z}
use Rattle.std.specs.Int.{w128}
use Rattle.base_words.specs.Sums.{sum_below}
use Rattle.sp_model.specs.Problems.{scenarios}
use Rattle.plan_calls.proofs.PlanValues.{values_fit, point_value}
use Rattle.base_words.proofs.SumBounds.{sum_below-more}
use Rattle.plan_calls.proofs.costs.cost.Goals as goal

pub value-requires-clause-inside : goal.value-requires-clause-inside
value-requires-clause-inside c =
    let run = c.args.run.now in
    let k = c.loop-scenario.scenario in
    let there : k < scenarios run = omega (arith, c.loop-scenario-test.true, c.len-scenario-end.ensures) in
    rw c.point.ensures (c.requires.feasible k there).inside

pub plus-sum-requires : goal.plus-sum-requires
plus-sum-requires c =
    let run = c.args.run.now in
    let plan = c.args.plan.now in
    let k = c.loop-scenario.scenario in
    let there : k < scenarios run = omega (arith, c.loop-scenario-test.true, c.len-scenario-end.ensures) in
    let fv : FitsSigned w128 c.value.result = search rules in
    let own = rw c.point.ensures at c.value.ensures in
    let next = sum_below-more (to_z w128 c.loop-scenario.sum-bits) c.value.result k (point_value run plan) c.loop-scenario.invariant own in
    simp to_z-of_z (rw next (values_fit run plan (k + 1) c.requires (omega (arith, there))))

pub loop-scenario-preserved : goal.loop-scenario-preserved
loop-scenario-preserved c =
    let run = c.args.run.now in
    let plan = c.args.plan.now in
    let k = c.loop-scenario.scenario in
    let fv : FitsSigned w128 c.value.result = search rules in
    let fp : FitsSigned w128 c.plus-sum.result = search rules in
    let own = rw c.point.ensures at c.value.ensures in
    let whole : c.plus-sum.result ≡ (to_z w128 c.loop-scenario.sum-bits +ℤ c.value.result) = simp to_z-of_z at c.plus-sum.ensures in
    let next = sum_below-more (to_z w128 c.loop-scenario.sum-bits) c.value.result k (point_value run plan) c.loop-scenario.invariant own in
    simp to_z-of_z (whole ∙ next)

pub returns : goal.returns
returns c =
    let run = c.args.run.now in
    let end : c.loop-scenario.scenario ≡ scenarios run = omega (arith, c.loop-scenario-test.false, c.len-scenario-end.ensures, c.loop-scenario.auto.scenario-end) in
    c.loop-scenario.invariant ∙ ap (λ n. sum_below n (point_value run c.args.plan.now)) end
