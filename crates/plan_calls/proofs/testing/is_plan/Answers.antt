use Rattle.std.proofs.Common.{sym}
use Rattle.plan_calls.specs.PlanTests.{infeasible, no_plan, split}
use Rattle.plan_calls.proofs.PlanFailures.{err_is_none, front_fails, front_holds, ok_is_plan, some_is_none}
use Rattle.plan_calls.proofs.testing.is_plan.Goals as goal

pub returns-in-Err-clause-first : goal.returns-in-Err-clause-first
unfolding no_plan
returns-in-Err-clause-first c = front_fails (infeasible c.args.run.now c.args.plan.now) (split c.args.run.now c.args.plan.now) c.in-Err.failure (sym c.in-Err.ensures)

pub returns-in-Err-clause-none : goal.returns-in-Err-clause-none
returns-in-Err-clause-none c = some_is_none c.args.run.now c.args.plan.now c.in-Err.failure (sym (returns-in-Err-clause-first c))

pub returns-clause-first : goal.returns-clause-first
unfolding no_plan
returns-clause-first c = front_holds (infeasible c.args.run.now c.args.plan.now) (split c.args.run.now c.args.plan.now) _ (sym c.in_default.ensures) c.test_nodes.ensures

pub returns-clause-plan : goal.returns-clause-plan
returns-clause-plan c = ok_is_plan c.args.run.now c.args.plan.now c.requires _ (returns-clause-first c)

pub returns-clause-none : goal.returns-clause-none
returns-clause-none c = err_is_none c.args.run.now c.args.plan.now _ (returns-clause-first c)
