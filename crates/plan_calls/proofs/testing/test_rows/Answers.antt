use Rattle.std.proofs.Common.{arith, sym, ◌<◌, length}
use Rattle.plan_calls.specs.PlanTests.{unmet_at}
use Rattle.run_calls.proofs.NumberedAnswers.{number_found, number_none}
use Rattle.plan_calls.proofs.testing.test_rows.Goals as goal

pub returns-in-Err : goal.returns-in-Err
returns-in-Err c =
    let run = c.args.run.now in
    let below : c.loop-row.row < length run.program.rows = omega (arith, c.loop-row-test.true, c.len-row-end.ensures) in
    sym (number_found (unmet_at run c.args.plan.now c.args.scenario) c.loop-row.row (length run.program.rows) c.in-Err.failure below c.loop-row.invariant (sym c.in-Err.ensures))

pub loop-row-preserved : goal.loop-row-preserved
loop-row-preserved c = number_none (unmet_at c.args.run.now c.args.plan.now c.args.scenario) c.loop-row.row c.loop-row.invariant (sym c.in_default.ensures)
