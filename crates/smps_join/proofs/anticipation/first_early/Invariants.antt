use Rattle.std.proofs.Common.{take}
use Rattle.join_words.specs.Parts.{IsFirstEarly, firsts_of}
use Rattle.smps_join.proofs.anticipation.first_early.Given as goal

abbrev pub invariant-loop-entry : goal.invariant-loop-entry
invariant-loop-entry l = IsFirstEarly (firsts_of l.periods) (take l.entry-index l.entries) l.least
