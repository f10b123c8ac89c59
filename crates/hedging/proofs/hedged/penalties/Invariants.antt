use Rattle.std.proofs.Common.{◌≡◌, map}
use Rattle.std.specs.List.{range_with_len}
use Rattle.put_words.specs.Hedged.{hedged_square}
use Rattle.hedging.proofs.hedged.penalties.Given as goal

abbrev pub invariant-loop-column : goal.invariant-loop-column
invariant-loop-column l = l.square ≡ map (hedged_square l.run l.scenario) (range_with_len 0 l.column)
