use Rattle.std.proofs.Common.{◌≡◌, map, take, unsigned_abs}
use Rattle.sp_model.specs.declared.program.Column.{Column}
use Rattle.reach_core.proofs.greatest.sizes.Given as goal

abbrev pub invariant-loop-column : goal.invariant-loop-column
invariant-loop-column l = l.sizes.items ≡ map (λ (column : Column). unsigned_abs column.cost) (take l.column-index l.columns)
