use Rattle.std.proofs.Common.{◌≡◌, take}
use Rattle.capped_num.specs.Capped.{capped}
use Rattle.smps_join.specs.Weights.{weight_sum}
use Rattle.smps_join.proofs.weighing.weight_sum.Given as goal

abbrev pub invariant-loop-scenario : goal.invariant-loop-scenario
invariant-loop-scenario l = l.sum ≡ capped (weight_sum (take l.scenario-index l.listed))
