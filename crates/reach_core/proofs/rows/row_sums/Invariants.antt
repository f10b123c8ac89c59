use Rattle.std.proofs.Common.{◌≡◌, take}
use Rattle.reach_core.specs.Greatest.{sums_of}
use Rattle.reach_core.proofs.rows.row_sums.Given as goal

abbrev pub invariant-loop-entry : goal.invariant-loop-entry
invariant-loop-entry l = l.sums.items ≡ sums_of l.program (take l.entry-index l.entries)
