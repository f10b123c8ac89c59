-- Whether points of the scenarios are a plan, and the first place where they aren't.

use Rattle.std.specs.Prelude.{◌≡◌, ℕ, ◌<◌, ◌&&◌, Bool, length, ℤ, int_le, Option, Some, None, if◌then◌else◌}
use Rattle.std.specs.List.{range_with_len}
use Rattle.std.specs.Option.{option_or}
use Rattle.std.specs.Ordering.{int_eq}
use Rattle.base_words.specs.FirstAnswers.{first_some}
use Rattle.base_words.specs.Sums.{number_at}
use Rattle.boxed_problem.specs.BoxedFacts.{limits_at}
use Rattle.boxed_problem.specs.Rows.{activity, meets}
use Rattle.boxed_problem.specs.Sides.{side_at}
use Rattle.boxed_problem.specs.declared.parts.Side.{Side}
use Rattle.run_calls.specs.MultiplierTests.{is_of_stage, node_at}
use Rattle.sp_model.specs.Changes.{sides}
use Rattle.sp_model.specs.Plans.{point_of}
use Rattle.sp_model.specs.Problems.{data_at, scenarios}
use Rattle.sp_model.specs.declared.plan.Plan.{Plan}
use Rattle.sp_model.specs.declared.run.Run.{Run}
use Rattle.tree_core.specs.Nodes.{first_of, scenarios_at}
use Rattle.plan_calls.specs.declared.failure.NoPlan.{NoPlan}
use Rattle.plan_calls.specs.declared.failure.NoPlan.TheVariants as failure

-- a point for each scenario, with a value for each column
pub record ArePoints (run : Run) (plan : Plan) : Type 0 where
  pub long : length plan.points ≡ scenarios run
  pub whole : (s : ℕ) → s < scenarios run → length (point_of plan s) ≡ length run.program.columns

-- the value of scenario s in column j
abbrev pub value_in : Plan → ℕ → ℕ → ℤ
value_in plan s j = number_at (point_of plan s) j

-- whether a value lies on a side
abbrev pub lies_on : Side → ℤ → Bool
lies_on side value = int_le side.lower value && int_le value side.upper

-- the value of scenario s in column j, where it lies outside the column's box
abbrev pub outside_at : Run → Plan → ℕ → ℕ → Option NoPlan
outside_at run plan s j = if lies_on (side_at (sides run.program) j) (value_in plan s j) then None
    else Some (failure.Outside s j (value_in plan s j))

-- the first such column of scenario s
abbrev pub outside_in : Run → Plan → ℕ → Option NoPlan
outside_in run plan s =
    first_some (outside_at run plan s) (range_with_len 0 (length run.program.columns))

-- the activity of row i in the problem of scenario s, at the scenario's point
abbrev pub activity_in : Run → Plan → ℕ → ℕ → ℤ
activity_in run plan s i = activity (data_at run s).entries (point_of plan s) i

-- this activity, where it lies outside the row's limits in scenario s
abbrev pub unmet_at : Run → Plan → ℕ → ℕ → Option NoPlan
unmet_at run plan s i = if meets (limits_at (data_at run s).limits i) (activity_in run plan s i)
    then None else Some (failure.Row s i (activity_in run plan s i))

-- the first such row of scenario s
abbrev pub unmet_in : Run → Plan → ℕ → Option NoPlan
unmet_in run plan s = first_some (unmet_at run plan s) (range_with_len 0 (length run.program.rows))

-- why the point of scenario s isn't feasible: the boxes before the rows
abbrev pub infeasible_in : Run → Plan → ℕ → Option NoPlan
infeasible_in run plan s = option_or (outside_in run plan s) (unmet_in run plan s)

-- the value of scenario s in column j beside another, where they differ
abbrev pub differs_at : Plan → ℕ → ℕ → ℤ → ℕ → Option NoPlan
differs_at plan i j first s = if int_eq (value_in plan s j) first then None
    else Some (failure.Split i j first (value_in plan s j))

-- the value of the first scenario of node i in column j
abbrev pub first_value : Run → Plan → ℕ → ℕ → ℤ
first_value run plan i j = value_in plan (first_of (node_at run i)) j

-- the first scenario of node i whose value differs from that of the node's first one, in a column j
-- of the node's stage
abbrev pub split_at : Run → Plan → ℕ → ℕ → Option NoPlan
split_at run plan i j = if is_of_stage run i j
    then first_some (differs_at plan i j (first_value run plan i j))
    (scenarios_at run.program.tree.nodes i) else None

-- the first such column of node i
abbrev pub split_in : Run → Plan → ℕ → Option NoPlan
split_in run plan i =
    first_some (split_at run plan i) (range_with_len 0 (length run.program.columns))

-- the first scenario whose point isn't feasible
abbrev pub infeasible : Run → Plan → Option NoPlan
infeasible run plan = first_some (infeasible_in run plan) (range_with_len 0 (scenarios run))

-- the first node whose scenarios have different values
abbrev pub split : Run → Plan → Option NoPlan
split run plan = first_some (split_in run plan) (range_with_len 0 (length run.program.tree.nodes))

-- the first place where points are no plan: scenario by scenario, then node by node
unfoldable pub no_plan : Run → Plan → Option NoPlan
no_plan run plan = option_or (infeasible run plan) (split run plan)
