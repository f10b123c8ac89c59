use Rattle.std.proofs.Common.{◌≡◌, take}
use Rattle.join_numbers.proofs.Turns.{entries_in}
use Rattle.join_numbers.proofs.entry_list.entries.Given as goal

abbrev pub invariant-loop-entry : goal.invariant-loop-entry
invariant-loop-entry l = l.entries ≡ entries_in l.frame (take l.entry-index l.fn.core.entries)
