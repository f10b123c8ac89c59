use Rattle.std.proofs.Common.{◌≡◌, take}
use Rattle.std.specs.List.{filter_map}
use Rattle.join_words.specs.Parts.{parts_of}
use Rattle.join_words.specs.RunOf.{change_of}
use Rattle.join_numbers.proofs.changes.changes.Given as goal

abbrev pub invariant-loop-entry : goal.invariant-loop-entry
invariant-loop-entry l = l.changes ≡ filter_map (change_of (parts_of l.core) l.frame) (take l.entry-index l.entries)
