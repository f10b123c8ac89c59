use Rattle.std.proofs.Common.{◌≡◌, ◌+◌, map}
use Rattle.std.specs.List.{range_with_len}
use Rattle.scenario_lists.specs.Live.{entry_count, live_scenario}
use Rattle.scenario_lists.specs.ScenarioList.{product_scenario_at}
use Rattle.scenario_lists.proofs.listing.product_scenarios.Given as goal

abbrev pub invariant-loop-number : goal.invariant-loop-number
invariant-loop-number l = record {
  made : l.made ≡ map (λ s. live_scenario l.live (product_scenario_at l.elements s)) (range_with_len 0 l.number);
  room : l.left + entry_count l.made ≡ l.limit;
}
