use Rattle.std.proofs.Common.{◌≡◌, take}
use Rattle.std.specs.List.{fold}
use Rattle.boxed_problem.specs.BoxedFacts.{limits_at}
use Rattle.sp_model.specs.Changes.{core_data}
use Rattle.sp_model.specs.Problems.{scenario_at}
use Rattle.plan_calls.specs.LookUps.{limits_with}
use Rattle.plan_calls.proofs.values.limits_at.Given as goal

abbrev pub invariant-loop-change : goal.invariant-loop-change
invariant-loop-change l = l.limits ≡ fold (limits_with l.row) (limits_at (core_data l.run.program).limits l.row) (take l.change-index (scenario_at l.run l.scenario).changes)
