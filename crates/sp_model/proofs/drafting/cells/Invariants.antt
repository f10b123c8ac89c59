use Rattle.std.proofs.Common.{◌≡◌, take}
use Rattle.sp_model.specs.Changes.{cells_of}
use Rattle.sp_model.proofs.drafting.cells.Given as goal

abbrev pub invariant-loop-change : goal.invariant-loop-change
invariant-loop-change l = l.cells.items ≡ cells_of (take l.change-index l.changes)
