use Rattle.std.proofs.Common.{sym}
use Rattle.run_calls.specs.MultiplierTests.{too_big_at}
use Rattle.run_calls.proofs.NumberedAnswers.{number_found, number_none}
use Rattle.run_calls.proofs.multiplying.test_scenario.Goals as goal

pub returns-in-Err : goal.returns-in-Err
returns-in-Err c = sym (number_found (too_big_at c.args.run.now c.args.multipliers.now c.args.scenario) c.loop-column.column c.args.run.now.nonleaf c.in-Err.fault c.loop-column-test.true c.loop-column.invariant (sym c.in-Err.ensures))

pub loop-column-preserved : goal.loop-column-preserved
loop-column-preserved c = number_none (too_big_at c.args.run.now c.args.multipliers.now c.args.scenario) c.loop-column.column c.loop-column.invariant (sym c.in_default.ensures)
