use Rattle.std.proofs.Common.{◌≡◌, take}
use Rattle.smps_core.specs.CoreData.{entries_of}
use Rattle.smps_core.proofs.entries.entries_in.Given as goal

abbrev pub invariant-loop-cell : goal.invariant-loop-cell
invariant-loop-cell l = l.entries ≡ entries_of (take l.cell-index l.cells)
