use Rattle.std.proofs.Common.{◌≡◌, ◌≤◌, ◌+◌, ◌*◌, drop, min}
use Rattle.scenario_lists.specs.Combinations.{combinations}
use Rattle.stoch_lines.specs.Faults.{max_scenarios}
use Rattle.scenario_lists.proofs.counting.combinations.Given as goal

abbrev pub invariant-loop-k : goal.invariant-loop-k
invariant-loop-k l = record {
  count : min (combinations l.elements) (max_scenarios + 1) ≡ min (l.count * combinations (drop l.k l.elements)) (max_scenarios + 1);
  small : l.count ≤ max_scenarios + 1;
}
