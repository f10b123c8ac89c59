use Rattle.std.proofs.Common.{rules, ap, ◌∙◌, ◌≡◌, subst, sym, ℤ, FitsSigned, ◌-ℤ◌}
use Rattle.std.proofs.lemmas.Int.{to_z-of_z}
use Rattle.std.specs.Int.{w128}
use Rattle.boxed_problem.specs.Rows.{activity_part}
use Rattle.sp_model.specs.Changes.{core_data}
use Rattle.plan_calls.specs.Moves.{IsSmallPart, cell, entry_in}
use Rattle.plan_calls.proofs.ActivityBounds.{minus_fits}
use Rattle.plan_calls.proofs.activities.cell_move.Goals as goal

pub entry_part-requires-2 : goal.entry_part-requires-2
entry_part-requires-2 c =
    let fits : FitsSigned w128 c.core_cell.result = search rules in
    let P : ℤ → Type 0 = λ z. IsSmallPart c.args.point.now c.args.new.row (cell c.args.new.row c.args.new.column z) in
    simp to_z-of_z (subst P (sym c.core_cell.ensures) c.requires.old)

pub minus-requires : goal.minus-requires
minus-requires c =
    let fn : FitsSigned w128 c.entry_part.result = search rules in
    let fo : FitsSigned w128 c.entry_part-2.result = search rules in
    let fc : FitsSigned w128 c.core_cell.result = search rules in
    let x = c.args.point.now in
    let row = c.args.new.row in
    let old : c.entry_part-2.result ≡ activity_part x row (entry_in (core_data c.args.program.now) row c.args.new.column) = (simp to_z-of_z at c.entry_part-2.ensures) ∙ ap (λ z. activity_part x row (cell row c.args.new.column z)) c.core_cell.ensures in
    simp to_z-of_z (rw (c.entry_part.ensures, old) (minus_fits x row c.args.new (entry_in (core_data c.args.program.now) row c.args.new.column) c.requires.new c.requires.old))

pub returns : goal.returns
returns c =
    let fn : FitsSigned w128 c.entry_part.result = search rules in
    let fo : FitsSigned w128 c.entry_part-2.result = search rules in
    let fc : FitsSigned w128 c.core_cell.result = search rules in
    let x = c.args.point.now in
    let row = c.args.new.row in
    let old : c.entry_part-2.result ≡ activity_part x row (entry_in (core_data c.args.program.now) row c.args.new.column) = (simp to_z-of_z at c.entry_part-2.ensures) ∙ ap (λ z. activity_part x row (cell row c.args.new.column z)) c.core_cell.ensures in
    let fm : FitsSigned w128 c.minus.result = search rules in
    let difference : c.minus.result ≡ (c.entry_part.result -ℤ c.entry_part-2.result) = simp to_z-of_z at c.minus.ensures in
    simp to_z-of_z (difference ∙ (ap (λ z. z -ℤ c.entry_part-2.result) c.entry_part.ensures ∙ ap (λ z. activity_part x row c.args.new -ℤ z) old))
