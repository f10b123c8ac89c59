use Rattle.std.proofs.Common.{arith, sym, ◌<◌, length}
use Rattle.plan_calls.specs.PlanTests.{split_in}
use Rattle.run_calls.proofs.NumberedAnswers.{number_found, number_none}
use Rattle.plan_calls.proofs.testing.test_nodes.Goals as goal

pub returns-in-Err : goal.returns-in-Err
returns-in-Err c =
    let run = c.args.run.now in
    let below : c.loop-node.node < length run.program.tree.nodes = omega (arith, c.loop-node-test.true, c.len-node-end.ensures) in
    sym (number_found (split_in run c.args.plan.now) c.loop-node.node (length run.program.tree.nodes) c.in-Err.failure below c.loop-node.invariant (sym c.in-Err.ensures))

pub loop-node-preserved : goal.loop-node-preserved
loop-node-preserved c = number_none (split_in c.args.run.now c.args.plan.now) c.loop-node.node c.loop-node.invariant (sym c.in_default.ensures)
