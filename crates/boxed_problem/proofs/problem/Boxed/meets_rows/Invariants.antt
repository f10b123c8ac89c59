use Rattle.std.proofs.Common.{◌≡◌, true}
use Rattle.boxed_problem.specs.Rows.{meets_rows}
use Rattle.boxed_problem.proofs.problem.Boxed.meets_rows.Given as goal

abbrev pub invariant-loop-row : goal.invariant-loop-row
invariant-loop-row l = meets_rows l.row l.self.rows l.self.entries l.point ≡ true
