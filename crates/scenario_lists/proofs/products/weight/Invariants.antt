use Rattle.std.proofs.Common.{◌≡◌}
use Rattle.capped_num.specs.Capped.{capped}
use Rattle.scenario_lists.specs.Combinations.{weight_below}
use Rattle.scenario_lists.proofs.products.weight.Given as goal

abbrev pub invariant-loop-k : goal.invariant-loop-k
invariant-loop-k l = l.weight ≡ capped (weight_below l.elements l.choices l.k)
