use Rattle.std.proofs.Common.{◌≡◌, ◌≤◌, drop, length}
use Rattle.boxed_problem.specs.Points.{point_count}
use Rattle.boxed_problem.proofs.problem.Boxed.has_few_points.Given as goal

abbrev pub invariant-loop-j : goal.invariant-loop-j
invariant-loop-j l = record {
  within : l.j ≤ length l.columns;
  count : l.count ≡ point_count (drop l.j l.columns);
  few : l.count ≤ 1000000;
}

abbrev pub decreases-loop-j : goal.decreases-loop-j
decreases-loop-j l = l.j
