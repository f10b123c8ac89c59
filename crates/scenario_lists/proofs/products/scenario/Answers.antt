use Rattle.std.proofs.Common.{ap, ◌∙◌, ◌≡◌}
use Rattle.scenario_lists.specs.Combinations.{entries_in}
use Rattle.scenario_lists.specs.Distinct.{first_of_each}
use Rattle.scenario_lists.specs.Live.{live_entries}
use Rattle.scenario_lists.proofs.Staying.{live_firsts}
use Rattle.scenario_lists.proofs.products.scenario.Goals as goal

pub returns : goal.returns
returns c =
    let all = entries_in c.args.elements.now c.args.choices.now in
    let entries : c.in_ok-kept.kept ≡ live_entries c.args.live.now (first_of_each all) = c.in_ok-kept.ensures ∙ ap first_of_each (c.as_slice.ensures.value ∙ c.in_ok-entries.ensures) ∙ live_firsts c.args.live.now all in
    λ i. record { weight = c.weight.ensures i; entries = entries i }
