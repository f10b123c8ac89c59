-- The scenarios of a stoch file without the entries of columns that leave the run, and what listing
-- them answers.
use Rattle.std.specs.Prelude.{ℕ, Bool, true, false, List, ◌∷◌, [], ◌++◌, length, map, slice_index_or, unsigned_abs}
use Rattle.std.specs.List.{filter, fold, range_with_len, sum_by}
use Rattle.stoch_lines.specs.declared.places.StochEntry.{StochEntry}
use Rattle.stoch_lines.specs.declared.places.StochPlace.{StochPlace}
use Rattle.stoch_lines.specs.declared.places.StochPlace.TheVariants.{Cost, Cell, Right}
use Rattle.smps_stoch.specs.declared.stoch.Branch.{Branch}
use Rattle.smps_stoch.specs.declared.stoch.Element.{Element}
use Rattle.smps_stoch.specs.declared.stoch.Stoch.{Stoch}
use Rattle.capped_num.specs.Capped.{capped}
use Rattle.scenario_lists.specs.Combinations.{combinations}
use Rattle.scenario_lists.specs.Distinct.{first_of_each}
use Rattle.scenario_lists.specs.ScenarioList.{inherited, product_scenario_at, scenarios_of}
use Rattle.scenario_lists.specs.declared.data.ScenarioData.{ScenarioData}
use Rattle.scenario_lists.specs.declared.fault.ListFault.{ListFault}
use Rattle.scenario_lists.specs.declared.fault.ListFault.TheVariants.{Memory, TooManyEntries}

-- whether a place stays, where it is said of each column whether it does: that of a column with it,
-- and each right-hand side
abbrev pub stays_in : List Bool → StochPlace → Bool
stays_in live (Cost column) = slice_index_or live column false
stays_in live (Cell row column) = slice_index_or live column false
stays_in live (Right row) = true

-- those of some entries that stay
abbrev pub live_entries : List Bool → List StochEntry → List StochEntry
live_entries live entries = filter (λ (e : StochEntry). stays_in live e.place) entries

-- a scenario with the entries that stay, and all scenarios so
abbrev pub live_scenario : List Bool → ScenarioData → ScenarioData
live_scenario live s = record { weight = s.weight; entries = live_entries live s.entries }

abbrev pub live_scenarios : List Bool → Stoch → List ScenarioData
live_scenarios live stoch = map (live_scenario live) (scenarios_of stoch)

-- the scenarios of all combinations so
abbrev pub live_products : List Bool → List Element → List ScenarioData
live_products live elements = map (λ s. live_scenario live (product_scenario_at elements s))
    (range_with_len 0 (combinations elements))

-- a listed scenario beside some that have only entries that stay
abbrev pub live_beside : List Bool → List ScenarioData → Branch → ScenarioData
live_beside live made branch = record {
  weight = capped (unsigned_abs branch.weight);
  entries = first_of_each (live_entries live branch.entries ++ inherited made branch.parent);
}

abbrev pub with_live : List Bool → List ScenarioData → Branch → List ScenarioData
with_live live made branch = made ++ live_beside live made branch ∷ []

abbrev pub live_branches : List Bool → List Branch → List ScenarioData
live_branches live branches = fold (with_live live) [] branches

-- how many entries some scenarios have together
abbrev pub entry_count : List ScenarioData → ℕ
entry_count listed = sum_by (λ (s : ScenarioData). length s.entries) listed

-- a fault for too many entries has this cause; memory may be refused at any time
abbrev pub ByExcess : Type 0 → ListFault → Type 0
ByExcess Cause TooManyEntries = Cause
ByExcess Cause Memory = Unit {0}
