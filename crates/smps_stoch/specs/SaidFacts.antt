-- What holds of all that lines of a stoch file say, where none of them has a fault.
use Rattle.std.specs.Prelude.{◌≡◌, ℕ, ◌+◌, ◌<◌, ◌≤◌, true, List, length, slice_index_or, Option, Some, None}
use Rattle.std.specs.List.{All, AllPairs}
use Rattle.dec_core.specs.DecimalValue.{max_places}
use Rattle.dec_core.specs.declared.decimal.Decimal.{Decimal}
use Rattle.smps_words.specs.declared.core_file.Core.{Core}
use Rattle.smps_words.specs.declared.periods.Periods.{Periods}
use Rattle.stoch_lines.specs.Before.{Before}
use Rattle.stoch_lines.specs.Faults.{is_probability, max_scenarios}
use Rattle.stoch_lines.specs.Places.{same_place}
use Rattle.stoch_lines.specs.declared.entries.Owned.{Owned}
use Rattle.stoch_lines.specs.declared.heading.Heading.{Heading}
use Rattle.stoch_lines.specs.declared.heading.Heading.TheVariants as headings
use Rattle.stoch_lines.specs.declared.places.Source.{Source}
use Rattle.stoch_lines.specs.declared.state.Chosen.{Chosen}
use Rattle.stoch_lines.specs.declared.state.ScenarioHead.{ScenarioHead}
use Rattle.smps_stoch.specs.StochData.{no_choice, no_scenario}
use Rattle.smps_stoch.specs.StochFacts.{IsEarlier, IsEntry, IsLaterPeriod, IsPeriod}

-- a probability as a line gives it: above 0, at most the greatest, with few places
pub record IsProbable (d : Decimal) : Type 0 where
  pub in_range : is_probability d ≡ true
  pub places : d.places ≤ max_places

-- the line that begins a scenario
pub record IsHead (periods : Periods) (scenario : ScenarioHead) : Type 0 where
  pub probable : IsProbable scenario.probability
  pub period : IsPeriod periods scenario.period

-- element k has a realisation
abbrev pub IsUsed : List Chosen → ℕ → Type 0
IsUsed realisations k =
    (i : ℕ) × (i < length realisations) × ((slice_index_or realisations i no_choice).element ≡ k)

-- the elements: each has a later period and a realisation
pub record AreElements (periods : Periods) (realisations : List Chosen) (starts : List ℕ)
    (sources : List Source) : Type 0 where
  pub probable : All (λ chosen. IsProbable chosen.probability) realisations
  pub later : All (IsLaterPeriod periods) starts
  pub used : (k : ℕ) → k < length starts → IsUsed realisations k
  pub matched : length starts ≡ length sources

-- the scenarios: each has its parent before it
pub record AreHeads (periods : Periods) (scenarios : List ScenarioHead)
    (names : List (List ℕ)) : Type 0 where
  pub heads : All (IsHead periods) scenarios
  pub parents : (k : ℕ) → k < length scenarios
      → IsEarlier (slice_index_or scenarios k no_scenario).parent k
  pub named : length names ≡ length scenarios
  pub few : length scenarios ≤ max_scenarios

-- of two entries of one place the later one is of the same element, and of a later realisation or
-- scenario
abbrev pub Follows : Owned → Owned → Type 0
Follows owned later =
    same_place owned.entry.place later.entry.place ≡ true
    → (owned.element ≡ later.element) × (owned.choice < later.choice)

-- the element of realisation k, 0 where it isn't there
abbrev pub chosen_element : List Chosen → ℕ → ℕ
chosen_element realisations k = (slice_index_or realisations k no_choice).element

-- the entries: each is of a realisation or a scenario that is there, and of that realisation's
-- element
pub record AreOwned (core : Core) (realisations : List Chosen) (scenarios : List ScenarioHead)
    (entries : List Owned) : Type 0 where
  pub each : All (λ owned. IsEntry core owned.entry) entries
  pub apart : AllPairs Follows entries
  pub there : All (λ owned. owned.choice < length realisations + length scenarios) entries
  pub elements : All (λ owned. owned.element ≡ chosen_element realisations owned.choice) entries

pub record SaidFacts (core : Core) (periods : Periods) (b : Before) : Type 0 where
  pub elements : AreElements periods b.realisations b.periods b.sources
  pub heads : AreHeads periods b.scenarios b.names
  pub entries : AreOwned core b.realisations b.scenarios b.entries

-- before the first section nothing is there, and a section has no realisations or no scenarios
abbrev pub IsSection : Option Heading → ℕ → ℕ → Type 0
IsSection None realisations scenarios = (realisations ≡ 0) × (scenarios ≡ 0)
IsSection (Some headings.Scenarios) realisations scenarios = realisations ≡ 0
IsSection (Some headings.Blocks) realisations scenarios = scenarios ≡ 0
IsSection (Some headings.Indep) realisations scenarios = scenarios ≡ 0

-- what holds besides as long as the file goes on
pub record GoesOnWell (b : Before) : Type 0 where
  pub nothing : b.nothing ≡ true → (length b.realisations ≡ 0) × (length b.scenarios ≡ 0)
  pub section : IsSection b.section (length b.realisations) (length b.scenarios)
  pub begun : b.begun ≡ true → 0 < length b.realisations + length b.scenarios
