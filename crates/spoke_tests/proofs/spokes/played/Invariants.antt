use Rattle.spoke_tests.specs.Benches.{IsBench}
use Rattle.spoke_tests.proofs.spokes.played.Given as goal

abbrev pub invariant-loop-actor : goal.invariant-loop-actor
invariant-loop-actor l = IsBench l.run l.bench
