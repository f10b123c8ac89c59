use Rattle.std.proofs.Common.{◌≡◌, map}
use Rattle.std.specs.List.{range_with_len}
use Rattle.drive_words.specs.Worlds.{new_rank}
use Rattle.schedule_core.proofs.opening.new_ranks.Given as goal

abbrev pub invariant-loop-rank : goal.invariant-loop-rank
invariant-loop-rank l = l.ranks.items ≡ map (new_rank l.run) (range_with_len 0 l.rank)
