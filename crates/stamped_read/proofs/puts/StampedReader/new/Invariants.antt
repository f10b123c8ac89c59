use Rattle.std.proofs.Common.{◌≡◌, map}
use Rattle.std.specs.List.{range_with_len}
use Rattle.stamped_read.specs.Readers.{fresh_part}
use Rattle.stamped_read.proofs.puts.StampedReader.new.Given as goal

abbrev pub invariant-loop-rank : goal.invariant-loop-rank
invariant-loop-rank g l = l.parts.items ≡ map (fresh_part (g.M.Meaning.wide l.of)) (range_with_len 0 l.rank)
