use Rattle.std.proofs.Common.{◌≡◌, Some}
use Rattle.sp_model.specs.Problems.{least_of, sum_some}
use Rattle.sp_model.specs.ScenarioPoints.{HavePoints}
use Rattle.dual_value.specs.Duals.{priced_in}
use Rattle.dual_value.proofs.summing.dual.Given as goal

abbrev pub invariant-loop-scenario : goal.invariant-loop-scenario
invariant-loop-scenario l = record {
  sum : sum_some l.scenario (λ s. least_of (priced_in l.run l.multipliers s)) ≡ Some l.sum;
  before : HavePoints l.run l.scenario;
}
