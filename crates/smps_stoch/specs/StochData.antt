-- What the lines of a stoch file give: elements with their realisations, or scenarios.
use Rattle.std.specs.Prelude.{ℕ, ◌==◌, if◌then◌else◌, List, [], length, map, filter, slice_index, slice_index_or, None, pos}
use Rattle.std.specs.List.{range_with_len}
use Rattle.dec_core.specs.Scale.{common_places, scaled_to}
use Rattle.smps_words.specs.CoreFacts.{zero_decimal}
use Rattle.stoch_lines.specs.declared.places.StochEntry.{StochEntry}
use Rattle.stoch_lines.specs.declared.entries.Owned.{Owned}
use Rattle.stoch_lines.specs.declared.state.Chosen.{Chosen}
use Rattle.stoch_lines.specs.declared.state.ScenarioHead.{ScenarioHead}
use Rattle.stoch_lines.specs.Before.{Before}
use Rattle.smps_stoch.specs.declared.stoch.Stoch.{Stoch}
use Rattle.smps_stoch.specs.declared.stoch.Stoch.TheVariants.{Product, Scenarios}
use Rattle.smps_stoch.specs.declared.stoch.Element.{Element}
use Rattle.smps_stoch.specs.declared.stoch.Realisation.{Realisation}
use Rattle.smps_stoch.specs.declared.stoch.Branch.{Branch}
use Rattle.smps_stoch.specs.declared.drafts.Draft.{Draft}

-- the entries of realisation or scenario k, in order
abbrev pub entries_at : List Owned → ℕ → List StochEntry
entries_at entries k = map (λ owned. owned.entry) (filter (λ owned. owned.choice == k) entries)

-- what stands past the end of the realisations, and of the scenarios
abbrev pub no_choice : Chosen
no_choice = record { element = 0; probability = zero_decimal }

abbrev pub no_scenario : ScenarioHead
no_scenario = record { parent = None; probability = zero_decimal; period = 0 }

-- what stands past the end of an element's realisations
abbrev pub no_realisation : Realisation
no_realisation = record { weight = pos 0; entries = [] }

-- realisation k with its entries
abbrev pub draft_at : List Chosen → List Owned → ℕ → Draft
draft_at realisations entries k =
    let chosen = slice_index_or realisations k no_choice in
    record {
      element = chosen.element;
      probability = chosen.probability;
      entries = entries_at entries k;
    }

abbrev pub drafts_of : List Chosen → List Owned → List Draft
drafts_of realisations entries =
    map (draft_at realisations entries) (range_with_len 0 (length realisations))

-- the realisations of element k
abbrev pub drafts_at : List Draft → ℕ → List Draft
drafts_at drafts k = filter (λ draft. draft.element == k) drafts

-- the greatest number of places of their probabilities
abbrev pub probability_places : List Draft → ℕ
probability_places drafts = common_places (map (λ draft. draft.probability) drafts)

-- a realisation's weight is its probability times a power of ten
abbrev pub weighed_at : ℕ → Draft → Realisation
weighed_at places draft = record {
  weight = scaled_to draft.probability places;
  entries = draft.entries;
}

-- element k: its realisations are weighed by one power of ten, the least by which all are whole
abbrev pub element_at : List ℕ → List Draft → ℕ → Element
element_at periods drafts k =
    let own = drafts_at drafts k in
    record {
      period = slice_index periods k;
      realisations = map (weighed_at (probability_places own)) own;
    }

-- the elements in order
abbrev pub elements_of : List ℕ → List Draft → List Element
elements_of periods drafts = map (element_at periods drafts) (range_with_len 0 (length periods))

-- scenario k: all scenarios are weighed by one power of ten
abbrev pub branch_at : ℕ → List ScenarioHead → List Owned → ℕ → Branch
branch_at places scenarios entries k =
    let scenario = slice_index_or scenarios k no_scenario in
    record {
      parent = scenario.parent;
      weight = scaled_to scenario.probability places;
      period = scenario.period;
      entries = entries_at entries k;
    }

-- the greatest number of places of the scenarios' probabilities
abbrev pub scenario_places : List ScenarioHead → ℕ
scenario_places scenarios = common_places (map (λ scenario. scenario.probability) scenarios)

-- the scenarios in order
abbrev pub branches_of : List ScenarioHead → List Owned → List Branch
branches_of scenarios entries =
    map (branch_at (scenario_places scenarios) scenarios entries)
    (range_with_len 0 (length scenarios))

-- scenarios where there is a scenario line, else elements
abbrev pub stoch_of : Before → Stoch
stoch_of b =
    if length b.scenarios == 0
    then Product (elements_of b.periods (drafts_of b.realisations b.entries))
    else Scenarios (branches_of b.scenarios b.entries)
