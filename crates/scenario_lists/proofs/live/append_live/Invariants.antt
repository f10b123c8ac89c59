use Rattle.std.proofs.Common.{◌≡◌, ◌++◌, take}
use Rattle.scenario_lists.specs.Live.{live_entries}
use Rattle.scenario_lists.proofs.live.append_live.Given as goal

abbrev pub invariant-loop-entry : goal.invariant-loop-entry
invariant-loop-entry l = l.entries.items ≡ l.fn.entries.items ++ live_entries l.fn.live (take l.entry-index l.fn.added)
