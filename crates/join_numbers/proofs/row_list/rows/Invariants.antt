use Rattle.std.proofs.Common.{◌≡◌, map}
use Rattle.std.specs.List.{range_with_len}
use Rattle.join_words.specs.Parts.{firsts_of, parts_of}
use Rattle.join_words.specs.RunOf.{row_of}
use Rattle.join_numbers.proofs.row_list.rows.Given as goal

abbrev pub invariant-loop-i : goal.invariant-loop-i
invariant-loop-i l = l.rows ≡ map (row_of (parts_of l.core) (firsts_of l.periods) l.frame) (range_with_len 0 l.i)
