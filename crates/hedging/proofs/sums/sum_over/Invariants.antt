use Rattle.std.proofs.Common.{◌≡◌, take}
use Rattle.put_words.specs.NodeSums.{sum_of}
use Rattle.hedging.proofs.sums.sum_over.Given as goal

abbrev pub invariant-loop-scenario : goal.invariant-loop-scenario
invariant-loop-scenario l = l.sum ≡ sum_of l.run l.x (take l.scenario-index l.members) l.column
