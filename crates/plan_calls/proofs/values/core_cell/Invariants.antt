use Rattle.std.proofs.Common.{◌≡◌, take, None}
use Rattle.std.specs.Prelude.{find}
use Rattle.sp_model.specs.Values.{is_cell}
use Rattle.plan_calls.proofs.values.core_cell.Given as goal

abbrev pub invariant-loop-entry : goal.invariant-loop-entry
invariant-loop-entry l = find (is_cell l.row l.column) (take l.entry-index l.program.entries) ≡ None
