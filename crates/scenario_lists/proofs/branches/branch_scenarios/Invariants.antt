use Rattle.std.proofs.Common.{◌≡◌, ◌+◌, [], length, take}
use Rattle.std.specs.List.{fold}
use Rattle.scenario_lists.specs.Live.{entry_count, with_live}
use Rattle.scenario_lists.proofs.branches.branch_scenarios.Given as goal

abbrev pub invariant-loop-k : goal.invariant-loop-k
invariant-loop-k l = record {
  made : l.made ≡ fold (with_live l.live) [] (take l.k l.branches);
  many : length l.made ≡ l.k;
  room : l.left + entry_count l.made ≡ l.limit;
}
