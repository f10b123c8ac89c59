use Rattle.std.proofs.Common.{arith, pos, FitsSigned, rules}
use Rattle.std.proofs.lemmas.Int.{to_z-of_z}
use Rattle.std.specs.Int.{w128}
use Rattle.boxed_problem.specs.Data.{problem_of}
use Rattle.boxed_problem.specs.Sides.{side_at}
use Rattle.base_words.specs.Sums.{number_at}
use Rattle.branch_bound.specs.Bettering.{KeepsSlack}
use Rattle.branch_bound.proofs.BetterLaws.{column_fits, column_narrows, narrows_self, reduced_within}
use Rattle.branch_bound.proofs.bettering.narrow_column.Goals as goal

pub returns-then-side : goal.returns-then-side
returns-then-side c = narrows_self (problem_of c.args.problem.now) c.args.best.now c.args.trail.now

pub column_cut-cut-requires-clause-fits : goal.column_cut-cut-requires-clause-fits
column_cut-cut-requires-clause-fits c =
    let r = c.args.reduced.now in
    let fv : FitsSigned w128 (number_at r.line c.args.column) = search rules in
    let fq : FitsSigned w128 (number_at r.square c.args.column) = search rules in
    let within = reduced_within (problem_of c.args.problem.now) r c.args.sparse.now c.args.trail.now c.requires.under c.requires.of c.requires.sparse in
    rw (c.as_slice-3.ensures, c.as_slice-2.ensures, c.as_slice.ensures) (simp to_z-of_z (column_fits r c.args.trail.now.sides c.args.column within c.requires.column))

pub column_cut-cut-requires-clause-convex : goal.column_cut-cut-requires-clause-convex
column_cut-cut-requires-clause-convex c =
    let r = c.args.reduced.now in
    let fq : FitsSigned w128 (number_at r.square c.args.column) = search rules in
    rw c.as_slice-3.ensures (simp to_z-of_z (r.facts.convex c.args.column (pos 0) (omega (arith, c.requires.column, r.facts.squares))))

pub returns : goal.returns
returns c =
    let b = problem_of c.args.problem.now in
    let r = c.args.reduced.now in
    let j = c.args.column in
    let old = c.args.trail.now in
    let fk = c.ranges.slack in
    let fv : FitsSigned w128 (number_at r.line j) = search rules in
    let fq : FitsSigned w128 (number_at r.square j) = search rules in
    let keeps : KeepsSlack (number_at r.line j) (number_at r.square j) (side_at old.sides j) c.args.slack c.column_cut-cut.result = simp to_z-of_z at (rw (c.as_slice-3.ensures, c.as_slice-2.ensures, c.as_slice.ensures) at c.column_cut-cut.ensures) in
    column_narrows b r c.args.best.now c.args.sparse.now old c.replace_side.new.trail j c.args.slack c.column_cut-cut.result c.requires.under c.requires.of c.requires.sparse c.requires.column c.requires.slack keeps c.in_ok-replace_side.ensures.sides c.replace_side.ensures.marks
