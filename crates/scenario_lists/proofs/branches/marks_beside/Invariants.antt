use Rattle.std.proofs.Common.{◌≡◌, map}
use Rattle.std.specs.List.{range_with_len}
use Rattle.scenario_lists.specs.ScenarioList.{mark_beside}
use Rattle.scenario_lists.proofs.branches.marks_beside.Given as goal

abbrev pub invariant-loop-before : goal.invariant-loop-before
invariant-loop-before l = l.marks ≡ map (mark_beside l.made l.branch) (range_with_len 1 l.before)
