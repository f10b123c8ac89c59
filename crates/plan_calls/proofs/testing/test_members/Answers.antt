use Rattle.std.proofs.Common.{sym}
use Rattle.base_words.proofs.FirstAnswers.{first_some-at, first_some-none_more}
use Rattle.plan_calls.specs.PlanTests.{differs_at, value_in}
use Rattle.plan_calls.proofs.testing.test_members.Goals as goal

pub returns-in-Err : goal.returns-in-Err
returns-in-Err c = sym (first_some-at (differs_at c.args.plan.now c.args.node c.args.column (value_in c.args.plan.now c.args.beside c.args.column)) c.args.members.now c.loop-scenario.scenario-index 0 c.in-Err.failure c.loop-scenario-test.true c.loop-scenario.invariant (sym c.in-Err.ensures))

pub loop-scenario-preserved : goal.loop-scenario-preserved
loop-scenario-preserved c = first_some-none_more (differs_at c.args.plan.now c.args.node c.args.column (value_in c.args.plan.now c.args.beside c.args.column)) c.args.members.now c.loop-scenario.scenario-index 0 c.loop-scenario-test.true c.loop-scenario.invariant (sym c.in_default.ensures)
