-- The sum of the scenarios' weights.
use Rattle.std.specs.Prelude.{◌≡◌, ℕ, ◌≤◌, ◌<◌, ◌^◌, List, ℤ, pos, Option, Some, None}
use Rattle.std.specs.List.{sum_by}
use Rattle.scenario_lists.specs.declared.data.ScenarioData.{ScenarioData}

-- the sum of the weights of some scenarios
abbrev pub weight_sum : List ScenarioData → ℕ
weight_sum listed = sum_by (λ (s : ScenarioData). s.weight) listed

-- the sum, or none from 2^127 on
abbrev pub IsTotal : Option ℤ → ℕ → Type 0
IsTotal (Some total) sum = (total ≡ pos sum) × (sum < 2 ^ 127)
IsTotal None sum = 2 ^ 127 ≤ sum
