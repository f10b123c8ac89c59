use Rattle.std.proofs.Common.{◌≡◌, [], take}
use Rattle.std.specs.List.{fold}
use Rattle.scenario_lists.specs.Distinct.{with_entry}
use Rattle.scenario_lists.proofs.distinct.first_of_each.Given as goal

abbrev pub invariant-loop-entry : goal.invariant-loop-entry
invariant-loop-entry l = l.kept ≡ fold with_entry [] (take l.entry-index l.entries)
