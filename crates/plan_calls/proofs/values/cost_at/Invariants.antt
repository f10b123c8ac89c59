use Rattle.std.proofs.Common.{◌≡◌, get_or, take}
use Rattle.std.specs.List.{fold}
use Rattle.sp_model.specs.Plans.{no_column}
use Rattle.sp_model.specs.Problems.{scenario_at}
use Rattle.plan_calls.specs.LookUps.{cost_with}
use Rattle.plan_calls.proofs.values.cost_at.Given as goal

abbrev pub invariant-loop-change : goal.invariant-loop-change
invariant-loop-change l = l.cost ≡ fold (cost_with l.column) (get_or l.run.program.columns l.column no_column).cost (take l.change-index (scenario_at l.run l.scenario).changes)
