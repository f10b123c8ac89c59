use Rattle.std.proofs.Common.{◌≡◌, take}
use Rattle.put_words.specs.NodeSums.{weight_of}
use Rattle.hedging.proofs.sums.weight_over.Given as goal

abbrev pub invariant-loop-scenario : goal.invariant-loop-scenario
invariant-loop-scenario l = l.sum ≡ weight_of l.run (take l.scenario-index l.members)
