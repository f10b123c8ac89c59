use Rattle.std.proofs.Common.{◌≡◌, length}
use Rattle.boxed_problem.proofs.Least.{best_after}
use Rattle.boxed_problem.specs.Data.{problem_of}
use Rattle.boxed_problem.specs.Odometer.{OnSides, points_from}
use Rattle.boxed_problem.specs.Optimum.{best_of}
use Rattle.boxed_problem.proofs.scanning.scan.Given as goal

abbrev pub invariant-points : goal.invariant-points
invariant-points l = record {
  on : OnSides l.problem.columns l.point;
  rest : best_after (problem_of l.problem) l.best (points_from l.problem.columns l.point) ≡ best_of (problem_of l.problem);
}

abbrev pub decreases-points : goal.decreases-points
decreases-points l = length (points_from l.problem.columns l.point)
