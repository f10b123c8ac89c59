-- How bounds enclose the least cost of a plan: a lower one with what proves it, an upper one, and
-- those that a log tells.

use Rattle.std.specs.Prelude.{◌≡◌, ℕ, take, ℤ, ◌≤ℤ◌, Some, IfSome}
use Rattle.bound_ledger.specs.declared.ledger.Pair.{Pair}
use Rattle.run_calls.specs.MultiplierTests.{AreSized}
use Rattle.sp_model.specs.Plans.{AreBalanced, IsPlan, cost_of, dual_of}
use Rattle.sp_model.specs.declared.plan.Multipliers.{Multipliers}
use Rattle.sp_model.specs.declared.plan.Plan.{Plan}
use Rattle.sp_model.specs.declared.run.Run.{Run}
use Rattle.run_log.specs.Events.{pair_in}
use Rattle.run_log.specs.declared.log.Event.{Event}
use Rattle.run_log.specs.declared.log.Event.TheVariants.{Put, Take}
use Rattle.run_log.specs.declared.log.Log.{Log}
use Rattle.run_log.specs.declared.log.Upper.{Upper}

-- a lower bound: at most the cost of every plan
abbrev pub IsLowerBound : Run → ℤ → Type 0
IsLowerBound run bound = (plan : Plan) → IsPlan run plan → bound ≤ℤ cost_of run plan

-- an upper bound: the cost of some plan
abbrev pub IsUpperBound : Run → ℤ → Type 0
IsUpperBound run value = (plan : Plan) × IsPlan run plan × (cost_of run plan ≡ value)

-- the pair of a log's first n events
abbrev pub pair_reached : Log → ℕ → Pair
pair_reached log n = pair_in log.first (take n log.events)

-- the bounds that a take tells are bounds
abbrev pub TellsBounds : Run → Event → Type 0
TellsBounds run (Put k) = Unit {0}
TellsBounds run (Take source k value lower upper) =
    IsLowerBound run lower × IfSome upper (IsUpperBound run)

-- multipliers that prove a lower bound: sized and balanced ones, whose dual value it is
pub record Proves (run : Run) (multipliers : Multipliers) (bound : ℤ) : Type 0 where
  pub sized : AreSized run multipliers
  pub balanced : AreBalanced run multipliers
  pub dual : dual_of run multipliers ≡ Some bound

-- an upper bound with a plan whose cost it is
abbrev pub IsPlanned : Run → Upper → Type 0
IsPlanned run upper = IsPlan run upper.plan × (cost_of run upper.plan ≡ upper.value)
