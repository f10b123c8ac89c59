use Rattle.std.proofs.Common.{◌≡◌, ◌<◌, ◌++◌, drop}
use Rattle.scenario_lists.specs.Combinations.{choices_of, combinations}
use Rattle.scenario_lists.proofs.choices.choices.Given as goal

abbrev pub invariant-loop-k : goal.invariant-loop-k
invariant-loop-k l = record {
  choices : choices_of l.elements l.fn.number ≡ l.choices.items ++ choices_of (drop l.k l.elements) l.rest;
  size : l.size ≡ combinations (drop l.k l.elements);
  there : l.rest < l.size;
}
