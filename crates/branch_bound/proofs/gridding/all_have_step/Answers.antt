use Rattle.std.proofs.Common.{ℕ, ◌<◌, FitsSigned, rules}
use Rattle.std.proofs.lemmas.Int.{to_z-of_z}
use Rattle.std.specs.Int.{w128}
use Rattle.boxed_problem.specs.Data.{problem_of}
use Rattle.boxed_problem.specs.Sides.{side_at}
use Rattle.base_words.specs.Sums.{number_at}
use Rattle.branch_bound.specs.ValueGrid.{HasStep}
use Rattle.branch_bound.proofs.GridLaws.{step_next}
use Rattle.branch_bound.proofs.gridding.all_have_step.Goals as goal

pub loop-j-preserved : goal.loop-j-preserved
loop-j-preserved c =
    let b = problem_of c.args.problem.now in
    let j = c.loop-j.j in
    let fs = c.ranges.step in
    let fl : FitsSigned w128 (number_at c.as_slice-line.result.now j) = search rules in
    let fq : FitsSigned w128 (number_at c.as_slice-square.result.now j) = search rules in
    let before : (k : ℕ) → k < j → HasStep c.args.step (number_at b.line k) (number_at b.square k) (side_at b.columns k) = simp to_z-of_z at c.loop-j.invariant in
    let here : HasStep c.args.step (number_at b.line j) (number_at b.square j) (side_at b.columns j) = rw (c.as_slice-columns.ensures, c.as_slice-line.ensures, c.as_slice-square.ensures) at (simp to_z-of_z at (c.has_step.ensures c.if-not-has_step.false)) in
    simp to_z-of_z (step_next b c.args.step j before here)
