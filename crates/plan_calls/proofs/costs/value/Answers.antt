use Rattle.std.proofs.Common.{rules, arith, ap, ◌∙◌, ◌+◌, ◌≡◌, ◌<◌, length, to_z, ◌+ℤ◌, ◌*ℤ◌, FitsSigned}
use Rattle.std.proofs.lemmas.Int.{to_z-of_z}
use Rattle.std.specs.Int.{w128}
use Rattle.base_words.proofs.SumBounds.{sum_below-next}
use Rattle.boxed_problem.specs.Objective.{value_part}
use Rattle.sp_model.specs.Problems.{problem_in}
use Rattle.sp_model.proofs.Bounds.{constant_fits}
use Rattle.plan_calls.proofs.PlanValues.{begun, value_is, value_small}
use Rattle.plan_calls.proofs.costs.value.Goals as goal

pub times-sum-requires : goal.times-sum-requires
times-sum-requires c =
    let run = c.args.run.now in
    let ff : FitsSigned w128 c.factor.result = search rules in
    let fc : FitsSigned w128 run.program.constant = search rules in
    simp to_z-of_z (rw c.factor.ensures (constant_fits run c.args.scenario c.requires.scenario))

pub loop-column-init : goal.loop-column-init
loop-column-init c =
    let run = c.args.run.now in
    let ff : FitsSigned w128 c.factor.result = search rules in
    let fc : FitsSigned w128 run.program.constant = search rules in
    let ft : FitsSigned w128 c.times-sum.result = search rules in
    simp to_z-of_z (begun run c.args.scenario c.args.point.now c.times-sum.result ((simp to_z-of_z at c.times-sum.ensures) ∙ ap (λ z. z *ℤ run.program.constant) c.factor.ensures))

pub plus-sum-requires : goal.plus-sum-requires
plus-sum-requires c =
    let run = c.args.run.now in
    let s = c.args.scenario in
    let x = c.args.point.now in
    let j = c.loop-column.column in
    let there : j < length run.program.columns = omega (arith, c.loop-column-test.true, c.len-column-end.ensures) in
    let fp : FitsSigned w128 c.column_part.result = search rules in
    let next = sum_below-next (problem_in run s).constant (to_z w128 c.loop-column.sum-bits) c.column_part.result j (value_part (problem_in run s).line (problem_in run s).square x) c.loop-column.invariant c.column_part.ensures in
    simp to_z-of_z (rw next (value_small run s (j + 1) x c.requires.scenario (omega (arith, there)) c.requires.inside))

pub loop-column-preserved : goal.loop-column-preserved
loop-column-preserved c =
    let run = c.args.run.now in
    let s = c.args.scenario in
    let x = c.args.point.now in
    let j = c.loop-column.column in
    let fp : FitsSigned w128 c.column_part.result = search rules in
    let fs : FitsSigned w128 c.plus-sum.result = search rules in
    let whole : c.plus-sum.result ≡ (to_z w128 c.loop-column.sum-bits +ℤ c.column_part.result) = simp to_z-of_z at c.plus-sum.ensures in
    let next = sum_below-next (problem_in run s).constant (to_z w128 c.loop-column.sum-bits) c.column_part.result j (value_part (problem_in run s).line (problem_in run s).square x) c.loop-column.invariant c.column_part.ensures in
    simp to_z-of_z (whole ∙ next)

pub returns : goal.returns
returns c =
    let run = c.args.run.now in
    let end : c.loop-column.column ≡ length run.program.columns = omega (arith, c.loop-column-test.false, c.len-column-end.ensures, c.loop-column.auto.column-end) in
    value_is run c.args.scenario c.loop-column.column c.args.point.now (to_z w128 c.loop-column.sum-bits) end c.loop-column.invariant
