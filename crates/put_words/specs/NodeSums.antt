-- What a node adds up: the weights of its scenarios, and their weighted values in a column.

use Rattle.std.specs.Prelude.{◌≡◌, ℕ, ◌+◌, ◌*◌, ◌<◌, List, length, ℤ, ◌*ℤ◌, ◌≤ℤ◌}
use Rattle.base_words.specs.ListSums.{sum_z}
use Rattle.base_words.specs.Sums.{number_at}
use Rattle.boxed_problem.specs.Sides.{side_at}
use Rattle.tree_core.specs.Nodes.{node_place, scenarios_at}
use Rattle.sp_model.specs.Changes.{sides}
use Rattle.sp_model.specs.Plans.{stage_of}
use Rattle.sp_model.specs.Problems.{scenario_at, scenarios}
use Rattle.sp_model.specs.declared.run.Run.{Run}

-- the weight of scenario s
abbrev pub weight_at : Run → ℕ → ℤ
weight_at run s = (scenario_at run s).weight

-- the value of scenario s in nonleaf column j, where values stand scenario after scenario
abbrev pub value_at : Run → List ℤ → ℕ → ℕ → ℤ
value_at run x s j = number_at x (s * run.nonleaf + j)

-- a value for each scenario and nonleaf column, each in the box of its column
pub record AreInside (run : Run) (x : List ℤ) : Type 0 where
  pub long : length x ≡ scenarios run * run.nonleaf
  pub lower : (s j : ℕ) → s < scenarios run → j < run.nonleaf
      → (side_at (sides run.program) j).lower ≤ℤ value_at run x s j
  pub upper : (s j : ℕ) → s < scenarios run → j < run.nonleaf
      → value_at run x s j ≤ℤ (side_at (sides run.program) j).upper

-- the number of the node that has scenario s at the stage of column j
abbrev pub node_for : Run → ℕ → ℕ → ℕ
node_for run s j = node_place run.program.tree.nodes s (stage_of run j)

-- the scenarios of that node, s among them
abbrev pub bundle : Run → ℕ → ℕ → List ℕ
bundle run s j = scenarios_at run.program.tree.nodes (node_for run s j)

-- the weight of some scenarios
abbrev pub weight_of : Run → List ℕ → ℤ
weight_of run members = sum_z (weight_at run) members

-- the weighted sum of their values in column j
abbrev pub sum_of : Run → List ℤ → List ℕ → ℕ → ℤ
sum_of run x members j = sum_z (λ s. weight_at run s *ℤ value_at run x s j) members
