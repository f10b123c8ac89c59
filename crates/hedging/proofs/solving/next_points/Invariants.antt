use Rattle.std.proofs.Common.{◌≡◌, Some}
use Rattle.put_words.specs.Hedged.{hedged_in}
use Rattle.put_words.specs.Puts.{bests_below}
use Rattle.hedging.proofs.solving.next_points.Given as goal

abbrev pub invariant-loop-scenario : goal.invariant-loop-scenario
invariant-loop-scenario l = bests_below l.scenario (hedged_in l.run l.put.multipliers l.put.x) ≡ Some l.points
