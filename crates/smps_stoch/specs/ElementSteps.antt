-- Realisations, scenarios and elements while entries and realisations are appended one by one.
use Rattle.std.specs.Prelude.{◌≡◌, ℕ, ◌<◌, ◌≤◌, List, [], ◌∷◌, ◌++◌, length, map, slice_index}
use Rattle.std.specs.List.{range_with_len}
use Rattle.dec_core.specs.DecimalValue.{max_places}
use Rattle.stoch_lines.specs.declared.entries.Owned.{Owned}
use Rattle.stoch_lines.specs.declared.state.Chosen.{Chosen}
use Rattle.stoch_lines.specs.declared.state.ScenarioHead.{ScenarioHead}
use Rattle.smps_stoch.specs.declared.stoch.Branch.{Branch}
use Rattle.smps_stoch.specs.declared.stoch.Element.{Element}
use Rattle.smps_stoch.specs.declared.drafts.Draft.{Draft}
use Rattle.smps_stoch.specs.StochData.{branch_at, draft_at, drafts_at, probability_places, weighed_at}

-- the first n realisations with these entries
abbrev pub drafts_with : List Chosen → List Owned → ℕ → List Draft
drafts_with realisations entries n = map (draft_at realisations entries) (range_with_len 0 n)

-- one more entry goes to its realisation
abbrev pub GrowsDrafts : List Draft → Owned → List Draft → Type 0
GrowsDrafts before owned after =
    (realisations : List Chosen) (entries : List Owned) (n : ℕ) →
    before ≡ drafts_with realisations entries n
    → after ≡ drafts_with realisations (entries ++ owned ∷ []) n

-- the first n scenarios with these entries
abbrev pub branches_with : ℕ → List ScenarioHead → List Owned → ℕ → List Branch
branches_with places scenarios entries n =
    map (branch_at places scenarios entries) (range_with_len 0 n)

-- one more entry goes to its scenario
abbrev pub GrowsBranches : List Branch → Owned → List Branch → Type 0
GrowsBranches before owned after =
    (places : ℕ) (scenarios : List ScenarioHead) (entries : List Owned) (n : ℕ) →
    before ≡ branches_with places scenarios entries n
    → after ≡ branches_with places scenarios (entries ++ owned ∷ []) n

-- the greatest number of places of each element's probabilities
abbrev pub places_by : List Draft → ℕ → List ℕ
places_by drafts count = map (λ k. probability_places (drafts_at drafts k)) (range_with_len 0 count)

-- one more realisation counts for its element
abbrev pub GrowsPlaces : List ℕ → Draft → List ℕ → Type 0
GrowsPlaces before draft after =
    (drafts : List Draft) (n : ℕ) → before ≡ places_by drafts n
    → after ≡ places_by (drafts ++ draft ∷ []) n

-- the number of places of a realisation's element is enough for it, and at most the greatest
abbrev pub AreEnough : List ℕ → Draft → Type 0
AreEnough places draft =
    draft.element < length places → draft.probability.places ≤ slice_index places draft.element

abbrev pub AreFew : List ℕ → Draft → Type 0
AreFew places draft = draft.element < length places → slice_index places draft.element ≤ max_places

-- element k with those of the first realisations that are its own, weighed by the places of the
-- elements
abbrev pub element_so_far : List ℕ → List ℕ → List Draft → ℕ → Element
element_so_far periods places drafts k = record {
  period = slice_index periods k;
  realisations = map (weighed_at (slice_index places k)) (drafts_at drafts k);
}

abbrev pub elements_so_far : List ℕ → List ℕ → List Draft → ℕ → List Element
elements_so_far periods places drafts n =
    map (element_so_far periods places drafts) (range_with_len 0 n)

-- one more realisation goes to its element
abbrev pub GrowsElements : List ℕ → List Element → Draft → List Element → Type 0
GrowsElements places before draft after =
    (periods : List ℕ) (drafts : List Draft) (n : ℕ) →
    before ≡ elements_so_far periods places drafts n
    → after ≡ elements_so_far periods places (drafts ++ draft ∷ []) n
