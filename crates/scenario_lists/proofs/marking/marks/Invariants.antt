use Rattle.std.proofs.Common.{◌≡◌, map}
use Rattle.std.specs.List.{range_with_len}
use Rattle.scenario_lists.specs.Combinations.{mark_in}
use Rattle.scenario_lists.proofs.marking.marks.Given as goal

abbrev pub invariant-loop-before : goal.invariant-loop-before
invariant-loop-before l = l.marks ≡ map (mark_in l.elements l.choices) (range_with_len 1 l.before)
