use Rattle.std.proofs.Common.{arith, ap, sym, ◌∙◌, ◌≡◌, false, length, FitsSigned, rules}
use Rattle.std.proofs.lemmas.Int.{to_z-of_z}
use Rattle.std.specs.Int.{w128}
use Rattle.boxed_problem.specs.BoxedFacts.{limits_at}
use Rattle.boxed_problem.specs.Rows.{activity, meets}
use Rattle.boxed_problem.proofs.RowTests.{row_fails}
use Rattle.boxed_problem.proofs.problem.Boxed.meets_rows.Goals as goal

pub returns-then-not-is_met : goal.returns-then-not-is_met
returns-then-not-is_met c =
    let b = c.args.self.now in
    let i = c.loop-row.row in
    let fits : FitsSigned w128 c.row_activity.result = search rules in
    let answer = rw (c.as_slice-rows.ensures, c.row_activity.ensures, c.as_slice-entries.ensures, c.as_slice-values.ensures) at (simp to_z-of_z at c.is_met.ensures) in
    let fails : meets (limits_at b.rows i) (activity b.entries c.args.point.now i) ≡ false = sym answer ∙ c.if-not-is_met.true in
    sym (row_fails (length b.rows) b.rows b.entries c.args.point.now i (omega (arith, ap length c.as_slice-rows.ensures)) fails)
