use Rattle.std.proofs.Common.{◌≡◌, length, take}
use Rattle.smps_stoch.specs.StochData.{scenario_places}
use Rattle.smps_stoch.specs.ElementSteps.{branches_with}
use Rattle.smps_stoch.proofs.branches.branches_of.Given as goal

abbrev pub invariant-loop-owned : goal.invariant-loop-owned
invariant-loop-owned l = l.branches.items ≡ branches_with (scenario_places l.scenarios) l.scenarios (take l.owned-index l.entries) (length l.scenarios)
