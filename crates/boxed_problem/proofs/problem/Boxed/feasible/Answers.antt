use Rattle.std.proofs.Common.{sym, ◌∙◌}
use Rattle.boxed_problem.specs.Data.{problem_of}
use Rattle.boxed_problem.specs.Points.{InBox}
use Rattle.boxed_problem.proofs.RowTests.{feasible_from, feasible_meets}
use Rattle.boxed_problem.proofs.problem.Boxed.feasible.Goals as goal

pub returns-then-lies_in : goal.returns-then-lies_in
returns-then-lies_in c =
    let b = c.args.self.now in
    let inside : InBox b.columns c.args.point.now = rw (c.as_slice.ensures, c.as_slice-2.ensures) at (c.lies_in.ensures.0 c.if-lies_in.true) in
    (λ h. feasible_from (problem_of b) c.args.point.now inside (sym c.meets_rows.ensures ∙ h), λ f. c.meets_rows.ensures ∙ feasible_meets (problem_of b) c.args.point.now f)
