use Rattle.std.proofs.Common.{arith, sym, ◌<◌, length}
use Rattle.plan_calls.specs.PlanTests.{split_at}
use Rattle.run_calls.proofs.NumberedAnswers.{number_found, number_none}
use Rattle.plan_calls.proofs.testing.test_node.Goals as goal

pub returns-in-Err : goal.returns-in-Err
returns-in-Err c =
    let run = c.args.run.now in
    let below : c.loop-column.column < length run.program.columns = omega (arith, c.loop-column-test.true, c.len-column-end.ensures) in
    sym (number_found (split_at run c.args.plan.now c.args.node) c.loop-column.column (length run.program.columns) c.in-Err.failure below c.loop-column.invariant (sym c.in-Err.ensures))

pub loop-column-preserved : goal.loop-column-preserved
loop-column-preserved c = number_none (split_at c.args.run.now c.args.plan.now c.args.node) c.loop-column.column c.loop-column.invariant (sym c.in_default.ensures)
