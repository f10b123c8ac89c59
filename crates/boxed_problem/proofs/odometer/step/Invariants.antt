use Rattle.std.proofs.Common.{◌≡◌, ◌≤◌, length}
use Rattle.boxed_problem.specs.Odometer.{WrappedFrom}
use Rattle.boxed_problem.proofs.odometer.step.Given as goal

abbrev pub invariant-loop-j : goal.invariant-loop-j
invariant-loop-j l = record {
  within : l.j ≤ length l.sides;
  long : length l.point ≡ length l.sides;
  wrapped : WrappedFrom l.j l.sides l.fn.point l.point;
}

abbrev pub decreases-loop-j : goal.decreases-loop-j
decreases-loop-j l = l.j
