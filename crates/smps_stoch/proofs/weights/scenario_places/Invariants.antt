use Rattle.std.proofs.Common.{◌≡◌, map, take}
use Rattle.smps_stoch.proofs.weights.scenario_places.Given as goal

abbrev pub invariant-loop-scenario : goal.invariant-loop-scenario
invariant-loop-scenario l = l.probabilities ≡ map (λ scenario. scenario.probability) (take l.scenario-index l.scenarios)
