use Rattle.std.proofs.Common.{arith, ◌<◌, get_or, length, pos}
use Rattle.std.proofs.lemmas.List.{get_or_default}
use Rattle.sp_model.specs.declared.program.Change.TheVariants.{Cost}
use Rattle.sp_model.proofs.Cells.{cells_more}
use Rattle.sp_model.proofs.drafting.cells.Goals as goal

pub loop-change-preserved : goal.loop-change-preserved
loop-change-preserved c =
    let cs = c.args.changes.now in
    let k = c.loop-change.change-index in
    let e = get_or cs k (Cost 0 (pos 0)) in
    let lt : k < length cs = omega arith in
    cells_more cs k e c.loop-change.cells.items c.append_cell.new.cells.items lt (get_or_default cs k (Cost 0 (pos 0)) e lt) c.loop-change.invariant c.in_ok-append_cell.ensures
