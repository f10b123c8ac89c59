use Rattle.std.proofs.Common.{◌≡◌, map}
use Rattle.std.specs.List.{range_with_len}
use Rattle.join_words.specs.Parts.{firsts_of, parts_of}
use Rattle.join_words.specs.RunOf.{column_of}
use Rattle.join_numbers.proofs.column_list.columns.Given as goal

abbrev pub invariant-loop-j : goal.invariant-loop-j
invariant-loop-j l = l.columns ≡ map (column_of (parts_of l.core) (firsts_of l.periods) l.frame) (range_with_len 0 l.j)
