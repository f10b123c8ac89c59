use Rattle.std.proofs.Common.{◌≡◌, map, take}
use Rattle.sp_model.specs.declared.program.Column.{Column}
use Rattle.sp_model.proofs.drafting.costs.Given as goal

abbrev pub invariant-loop-column : goal.invariant-loop-column
invariant-loop-column l = l.costs.items ≡ map (λ (column : Column). column.cost) (take l.column-index l.columns)
