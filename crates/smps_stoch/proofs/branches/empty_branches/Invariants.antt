use Rattle.std.proofs.Common.{◌≡◌, []}
use Rattle.smps_stoch.specs.ElementSteps.{branches_with}
use Rattle.smps_stoch.proofs.branches.empty_branches.Given as goal

abbrev pub invariant-loop-scenario : goal.invariant-loop-scenario
invariant-loop-scenario l = l.branches.items ≡ branches_with l.places l.scenarios [] l.scenario-index
