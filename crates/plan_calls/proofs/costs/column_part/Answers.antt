use Rattle.std.proofs.Common.{rules, arith, ◌∙◌, ◌≡◌, pos, FitsSigned, w64}
use Rattle.std.proofs.lemmas.Int.{to_z-of_z}
use Rattle.std.proofs.lemmas.List.{length-map}
use Rattle.std.specs.Int.{w128}
use Rattle.base_words.specs.Sums.{number_at}
use Rattle.boxed_problem.specs.Objective.{curve}
use Rattle.sp_model.specs.Changes.{side_of}
use Rattle.plan_calls.proofs.PlanValues.{part_fits, part_is}
use Rattle.plan_calls.proofs.costs.column_part.Goals as goal

pub bounds-point-column : goal.bounds-point-column
bounds-point-column c = let long = c.requires.inside.long in omega (arith, long, c.requires.column, length-map c.args.run.now.program.columns side_of)

pub column_value-requires : goal.column_value-requires
column_value-requires c =
    let run = c.args.run.now in
    let fl : FitsSigned w128 c.line_at.result = search rules in
    let fx : FitsSigned w64 (number_at c.args.point.now c.args.column) = search rules in
    simp to_z-of_z (rw c.line_at.ensures (part_fits run c.args.scenario c.args.column c.args.point.now c.requires.scenario c.requires.column c.requires.inside))

pub returns : goal.returns
returns c =
    let run = c.args.run.now in
    let fl : FitsSigned w128 c.line_at.result = search rules in
    let fx : FitsSigned w64 (number_at c.args.point.now c.args.column) = search rules in
    let fc : FitsSigned w128 c.column_value.result = search rules in
    let own : c.column_value.result ≡ curve c.line_at.result (pos 0) (number_at c.args.point.now c.args.column) = simp to_z-of_z at c.column_value.ensures in
    simp to_z-of_z (own ∙ part_is run c.args.scenario c.args.column c.args.point.now c.line_at.result c.line_at.ensures)
