use Rattle.std.proofs.Common.{◌≡◌, Some}
use Rattle.sp_model.specs.Problems.{sum_some}
use Rattle.sp_model.specs.ScenarioPoints.{HavePoints}
use Rattle.wait_and_see.proofs.Points.{least_in}
use Rattle.wait_and_see.proofs.summing.wait_and_see.Given as goal

abbrev pub invariant-loop-s : goal.invariant-loop-s
invariant-loop-s l = record {
  sum : sum_some l.s (least_in l.run) ≡ Some l.bound;
  before : HavePoints l.run l.s;
}
