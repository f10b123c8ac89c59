use Rattle.std.proofs.Common.{◌≡◌, map}
use Rattle.std.specs.List.{range_with_len}
use Rattle.put_words.specs.Hedged.{hedged_line}
use Rattle.hedging.proofs.hedged.hedged_costs.Given as goal

abbrev pub invariant-loop-column : goal.invariant-loop-column
invariant-loop-column l = l.line ≡ map (hedged_line l.run l.put.multipliers l.put.x l.scenario) (range_with_len 0 l.column)
