use Rattle.std.proofs.Common.{arith, sym, ◌<◌}
use Rattle.plan_calls.specs.PlanTests.{infeasible_in}
use Rattle.run_calls.proofs.NumberedAnswers.{number_found, number_none}
use Rattle.sp_model.specs.Problems.{scenarios}
use Rattle.plan_calls.proofs.testing.test_points.Goals as goal

pub returns-in-Err : goal.returns-in-Err
returns-in-Err c =
    let run = c.args.run.now in
    let below : c.loop-scenario.scenario < scenarios run = omega (arith, c.loop-scenario-test.true, c.len-scenario-end.ensures) in
    sym (number_found (infeasible_in run c.args.plan.now) c.loop-scenario.scenario (scenarios run) c.in-Err.failure below c.loop-scenario.invariant (sym c.in-Err.ensures))

pub loop-scenario-preserved : goal.loop-scenario-preserved
loop-scenario-preserved c = number_none (infeasible_in c.args.run.now c.args.plan.now) c.loop-scenario.scenario c.loop-scenario.invariant (sym c.in_default.ensures)
