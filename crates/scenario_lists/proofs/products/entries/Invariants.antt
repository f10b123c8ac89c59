use Rattle.std.proofs.Common.{◌≡◌}
use Rattle.base_words.specs.Gathered.{gathered}
use Rattle.scenario_lists.specs.Combinations.{entries_at}
use Rattle.scenario_lists.specs.Live.{live_entries}
use Rattle.scenario_lists.proofs.products.entries.Given as goal

abbrev pub invariant-loop-k : goal.invariant-loop-k
invariant-loop-k l = l.entries.items ≡ live_entries l.live (gathered l.k (entries_at l.elements l.choices))
