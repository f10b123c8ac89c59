use Rattle.std.proofs.Common.{◌≡◌, ◌++◌, take}
use Rattle.join_words.specs.Parts.{own_entries}
use Rattle.join_frame.proofs.entries.append.Given as goal

abbrev pub invariant-loop-realisation : goal.invariant-loop-realisation
invariant-loop-realisation l = l.entries.items ≡ l.fn.entries.items ++ own_entries (take l.realisation-index l.fn.realisations)
