-- The scenarios of a stoch file in order, and their marks at each stage.
use Rattle.std.specs.Prelude.{◌≡◌, ℕ, ◌+◌, ◌<◌, max, nat_le, if◌then◌else◌, List, [], ◌∷◌, ◌++◌, length, map, slice_index_or, Option, Some, None, unsigned_abs}
use Rattle.std.specs.List.{All, fold, range_with_len}
use Rattle.stoch_lines.specs.declared.places.StochEntry.{StochEntry}
use Rattle.smps_stoch.specs.StochFacts.{IsEarlier, no_branch}
use Rattle.smps_stoch.specs.declared.stoch.Branch.{Branch}
use Rattle.smps_stoch.specs.declared.stoch.Element.{Element}
use Rattle.smps_stoch.specs.declared.stoch.Stoch.{Stoch}
use Rattle.smps_stoch.specs.declared.stoch.Stoch.TheVariants.{Product, Scenarios}
use Rattle.tree_core.specs.Marks.{mark_of}
use Rattle.capped_num.specs.Capped.{capped}
use Rattle.scenario_lists.specs.Combinations.{choices_of, combinations, entries_in, mark_in, weight_below}
use Rattle.scenario_lists.specs.Distinct.{first_of_each}
use Rattle.scenario_lists.specs.declared.data.ScenarioData.{ScenarioData}

-- how many scenarios there are
abbrev pub count_of : Stoch → ℕ
count_of (Product elements) = combinations elements
count_of (Scenarios branches) = length branches

-- each scenario's parent is the core or comes before it
abbrev pub HaveParents : List Branch → Type 0
HaveParents branches =
    (k : ℕ) → k < length branches → IsEarlier (slice_index_or branches k no_branch).parent k

abbrev pub HaveAllParents : Stoch → Type 0
HaveAllParents (Product elements) = Unit {0}
HaveAllParents (Scenarios branches) = HaveParents branches

-- the weight of some choices: the product of the weights of what they choose
abbrev pub weight_in : List Element → List ℕ → ℕ
weight_in elements choices = weight_below elements choices (length elements)

-- the scenario of some choices
abbrev pub scenario_in : List Element → List ℕ → ScenarioData
scenario_in elements choices = record {
  weight = capped (weight_in elements choices);
  entries = first_of_each (entries_in elements choices);
}

-- the scenario of combination s, and the scenarios of all combinations
abbrev pub product_scenario_at : List Element → ℕ → ScenarioData
product_scenario_at elements s = scenario_in elements (choices_of elements s)

abbrev pub product_scenarios : List Element → List ScenarioData
product_scenarios elements =
    map (product_scenario_at elements) (range_with_len 0 (combinations elements))

-- what stands past the end of the scenarios
abbrev pub no_scenario : ScenarioData
no_scenario = record { weight = 0; entries = [] }

-- what a scenario takes over: its parent's entries, none of the core
abbrev pub inherited : List ScenarioData → Option ℕ → List StochEntry
inherited made None = []
inherited made (Some parent) = (slice_index_or made parent no_scenario).entries

-- a listed scenario: its own entries, and its parent's for other places
abbrev pub scenario_beside : List ScenarioData → Branch → ScenarioData
scenario_beside made branch = record {
  weight = capped (unsigned_abs branch.weight);
  entries = first_of_each (branch.entries ++ inherited made branch.parent);
}

-- one more scenario
abbrev pub with_branch : List ScenarioData → Branch → List ScenarioData
with_branch made branch = made ++ scenario_beside made branch ∷ []

-- the scenarios that a file lists, each made beside those before it
unfoldable pub branch_scenarios : List Branch → List ScenarioData
branch_scenarios branches = fold with_branch [] branches

-- the scenarios of a stoch file
abbrev pub scenarios_of : Stoch → List ScenarioData
scenarios_of (Product elements) = product_scenarios elements
scenarios_of (Scenarios branches) = branch_scenarios branches

-- the mark that a scenario takes over: its parent's, and 0 for the core's
abbrev pub inherited_mark : List (List ℕ) → Option ℕ → ℕ → ℕ
inherited_mark made None t = 0
inherited_mark made (Some parent) t = mark_of made t parent

-- the mark of a scenario at stage t: its own from its period on, which counts as the second at
-- least, before it its parent's
abbrev pub mark_beside : List (List ℕ) → Branch → ℕ → ℕ
mark_beside made branch t =
    if nat_le (max 2 branch.period) t then length made + 1 else inherited_mark made branch.parent t

-- the marks of a scenario at all stages
abbrev pub marks_beside : ℕ → List (List ℕ) → Branch → List ℕ
marks_beside stages made branch = map (mark_beside made branch) (range_with_len 1 stages)

-- one more scenario's marks
abbrev pub with_marks : ℕ → List (List ℕ) → Branch → List (List ℕ)
with_marks stages made branch = made ++ marks_beside stages made branch ∷ []

-- the marks of the scenarios that a file lists, each made beside those before it
unfoldable pub branch_marks : ℕ → List Branch → List (List ℕ)
branch_marks stages branches = fold (with_marks stages) [] branches

-- the marks of combination s at all stages, and those of all combinations
abbrev pub product_marks_at : ℕ → List Element → ℕ → List ℕ
product_marks_at stages elements s =
    map (mark_in elements (choices_of elements s)) (range_with_len 1 stages)

abbrev pub product_marks : ℕ → List Element → List (List ℕ)
product_marks stages elements =
    map (product_marks_at stages elements) (range_with_len 0 (combinations elements))

-- the marks of all scenarios of a stoch file
abbrev pub marks_of : ℕ → Stoch → List (List ℕ)
marks_of stages (Product elements) = product_marks stages elements
marks_of stages (Scenarios branches) = branch_marks stages branches

-- as many marks of each scenario as there are stages
abbrev pub AreRows : ℕ → List (List ℕ) → Type 0
AreRows stages made = All (λ marks. length marks ≡ stages) made
