use Rattle.std.proofs.Common.{FitsSigned, rules}
use Rattle.std.proofs.lemmas.Int.{to_z-of_z}
use Rattle.std.specs.Int.{w128}
use Rattle.boxed_problem.specs.Data.{problem_of}
use Rattle.boxed_problem.specs.Points.{InBox}
use Rattle.branch_bound.specs.ValueGrid.{AllStep}
use Rattle.branch_bound.proofs.GridLaws.{first_lies, grid_is, grid_of_ones}
use Rattle.branch_bound.proofs.gridding.grid_of.Goals as goal

pub value-base-requires : goal.value-base-requires
value-base-requires c = first_lies c.args.problem.now.columns c.in_ok-point.point c.args.problem.now.facts.filled (rw c.as_slice.ensures at c.in_ok-point.ensures)

pub returns-then-all_have_step : goal.returns-then-all_have_step
returns-then-all_have_step c =
    let b = problem_of c.args.problem.now in
    let fb : FitsSigned w128 c.value-base.result = search rules in
    let fs : FitsSigned w128 c.likely_step-step.result = search rules in
    let all : AllStep b c.likely_step-step.result = simp to_z-of_z at (c.all_have_step.ensures c.if-all_have_step.true) in
    let inside : InBox b.columns c.in_ok-point.point = first_lies b.columns c.in_ok-point.point c.args.problem.now.facts.filled (rw c.as_slice.ensures at c.in_ok-point.ensures) in
    simp to_z-of_z (grid_is b c.value-base.result c.likely_step-step.result c.in_ok-point.point c.likely_step-step.ensures all inside c.value-base.ensures)

pub returns : goal.returns
returns c =
    let fb : FitsSigned w128 c.value-base.result = search rules in
    simp to_z-of_z (grid_of_ones (problem_of c.args.problem.now) c.value-base.result)
