-- Plans of a run: a point for each scenario, the same for scenarios that can't yet be told apart;
-- their cost, and the least.

use Rattle.std.specs.Prelude.{◌≡◌, ℕ, ◌+◌, ◌*◌, ◌<◌, nat_lt, List, [], length, map, ℤ, pos, ◌+ℤ◌, ◌≤ℤ◌, Option, Some, None, slice_index_or, if◌then◌else◌}
use Rattle.std.specs.List.{All, range_with_len}
use Rattle.base_words.specs.ListSums.{sum_z}
use Rattle.base_words.specs.Sums.{number_at, sum_below}
use Rattle.boxed_problem.specs.Data.{Problem}
use Rattle.boxed_problem.specs.Objective.{value_of}
use Rattle.boxed_problem.specs.Optimum.{Feasible}
use Rattle.tree_core.specs.Nodes.{Share}
use Rattle.tree_core.specs.declared.tree.Node.{Node}
use Rattle.sp_model.specs.Problems.{least_of, problem_in, scenarios, sum_some}
use Rattle.sp_model.specs.declared.plan.Multipliers.{Multipliers}
use Rattle.sp_model.specs.declared.plan.Plan.{Plan}
use Rattle.sp_model.specs.declared.program.Column.{Column}
use Rattle.sp_model.specs.declared.run.Run.{Run}

-- what stands past the end of the columns
abbrev pub no_column : Column
no_column = record { stage = 0; lower = pos 0; upper = pos 0; cost = pos 0 }

-- the stage of column j
abbrev pub stage_of : Run → ℕ → ℕ
stage_of run j = (slice_index_or run.program.columns j no_column).stage

-- the point of scenario s
abbrev pub point_of : Plan → ℕ → List ℤ
point_of plan s = slice_index_or plan.points s []

-- nonanticipativity: scenarios that share a node have the same values in the columns of the node's
-- stage
abbrev pub AreNonanticipative : Run → Plan → Type 0
AreNonanticipative run plan =
    (s u j : ℕ) → j < length run.program.columns → Share run.program.tree.nodes s u (stage_of run j)
    → number_at (point_of plan s) j ≡ number_at (point_of plan u) j

-- a plan: a feasible point for each scenario, and nonanticipativity
pub record IsPlan (run : Run) (plan : Plan) : Type 0 where
  pub long : length plan.points ≡ scenarios run
  pub feasible : (s : ℕ) → s < scenarios run → Feasible (problem_in run s) (point_of plan s)
  pub same : AreNonanticipative run plan

-- the cost of a plan: the sum of the values of its points, each in the problem of its scenario
abbrev pub cost_of : Run → Plan → ℤ
cost_of run plan = sum_below (scenarios run) (λ s. value_of (problem_in run s) (point_of plan s))

-- a least cost: that of a plan, and at most that of every plan
pub record IsLeastCost (run : Run) (cost : ℤ) (plan : Plan) : Type 0 where
  pub plan_is : IsPlan run plan
  pub cost_is : cost_of run plan ≡ cost
  pub least : (other : Plan) → IsPlan run other → cost ≤ℤ cost_of run other

-- the optimum of the extensive form: the least cost of a plan; none where there is no plan
abbrev pub IsOptimum : Run → Option ℤ → Type 0
IsOptimum run None = (plan : Plan) → IsPlan run plan → ⊥
IsOptimum run (Some cost) = (plan : Plan) × IsLeastCost run cost plan

-- the multiplier of scenario s and column j; 0 for a column of the leaf stage
abbrev pub multiplier_of : Run → Multipliers → ℕ → ℕ → ℤ
multiplier_of run multipliers s j =
    if nat_lt j run.nonleaf then number_at multipliers.values (s * run.nonleaf + j) else pos 0

-- the multipliers of a node sum to 0 in each nonleaf column of its stage
abbrev pub BalancedAt : Run → Multipliers → Node → Type 0
BalancedAt run multipliers n = (j : ℕ) → j < run.nonleaf → stage_of run j ≡ n.stage
    → sum_z (λ s. multiplier_of run multipliers s j) n.scenarios ≡ pos 0

-- balanced multipliers: those of each node sum to 0
abbrev pub AreBalanced : Run → Multipliers → Type 0
AreBalanced run multipliers = All (λ n. BalancedAt run multipliers n) run.program.tree.nodes

-- a problem whose costs are raised by some prices, column by column
abbrev pub with_prices : Problem → (ℕ → ℤ) → Problem
with_prices problem prices = record problem {
  line = map (λ j. number_at problem.line j +ℤ prices j)
      (range_with_len 0 (length problem.columns));
}

-- the dual value: the sum of the least values of all scenarios with their multipliers as prices;
-- none where one has no feasible point
unfoldable pub dual_of : Run → Multipliers → Option ℤ
dual_of run multipliers = sum_some (scenarios run)
    (λ s. least_of (with_prices (problem_in run s) (multiplier_of run multipliers s)))
