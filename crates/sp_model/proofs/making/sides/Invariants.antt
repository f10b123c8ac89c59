use Rattle.std.proofs.Common.{◌≡◌, map, take}
use Rattle.sp_model.specs.Changes.{side_of}
use Rattle.sp_model.proofs.making.sides.Given as goal

abbrev pub invariant-loop-column : goal.invariant-loop-column
invariant-loop-column l = l.sides ≡ map side_of (take l.column-index l.columns)
