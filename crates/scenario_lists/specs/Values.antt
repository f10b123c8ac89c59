-- What the values and weights of scenarios come from: parents, choices and the weights of
-- realisations.
use Rattle.std.specs.Prelude.{ℕ, ◌*◌, List, [], ◌∷◌, Option, Some, None, slice_index_or, unsigned_abs}
use Rattle.std.specs.List.{sum_by}
use Rattle.dec_core.specs.declared.decimal.Decimal.{Decimal}
use Rattle.stoch_lines.specs.declared.places.StochPlace.{StochPlace}
use Rattle.smps_stoch.specs.LawWords.{value_in, value_at_place}
use Rattle.smps_stoch.specs.declared.stoch.Branch.{Branch}
use Rattle.smps_stoch.specs.declared.stoch.Element.{Element}
use Rattle.smps_stoch.specs.declared.stoch.Realisation.{Realisation}
use Rattle.scenario_lists.specs.Combinations.{chosen_at, no_element}
use Rattle.scenario_lists.specs.ScenarioList.{branch_scenarios, no_scenario}

-- the value of a place in scenario k of a file that lists them
abbrev pub listed_value : List Branch → StochPlace → ℕ → Option Decimal
listed_value branches place k =
    value_at_place place (slice_index_or (branch_scenarios branches) k no_scenario).entries

-- the value of a place that a scenario takes over: its parent's; the core gives none
abbrev pub parent_value : List Branch → StochPlace → Option ℕ → Option Decimal
parent_value branches place None = None
parent_value branches place (Some parent) = listed_value branches place parent

-- the value that element k gives to a place under some choices: that of the chosen realisation, or
-- else of the first one
abbrev pub chosen_value : List Element → List ℕ → StochPlace → ℕ → Option Decimal
chosen_value elements choices place k =
    value_in (slice_index_or elements k no_element) (chosen_at elements choices k) place

-- the size of a realisation's weight, and the sum of an element's
abbrev pub size_of : Realisation → ℕ
size_of realisation = unsigned_abs realisation.weight

abbrev pub weight_sum : Element → ℕ
weight_sum element = sum_by size_of element.realisations

-- the product of the elements' sums of weights
abbrev pub sums_product : List Element → ℕ
sums_product [] = 1
sums_product (e ∷ es) = weight_sum e * sums_product es
