use Rattle.std.proofs.Common.{arith, ◌≡◌, length}
use Rattle.candidates.proofs.FilledIn.{filled_agreed, filled_has, filled_inside}
use Rattle.candidates.proofs.filling.made.Goals as goal

pub returns-clause-values : goal.returns-clause-values
returns-clause-values c =
    let run = c.args.run.now in
    let all : c.loop-node.node ≡ length run.program.tree.nodes = omega (arith, c.len-node-end.ensures, c.loop-node-test.false, c.loop-node.auto.node-end) in
    filled_has run c.args.x.now c.args.choice c.loop-node.node _ all c.loop-node.invariant

pub returns-clause-agreed : goal.returns-clause-agreed
returns-clause-agreed c =
    let run = c.args.run.now in
    let all : c.loop-node.node ≡ length run.program.tree.nodes = omega (arith, c.len-node-end.ensures, c.loop-node-test.false, c.loop-node.auto.node-end) in
    filled_agreed run c.args.x.now c.args.choice c.loop-node.node _ all c.loop-node.invariant

pub returns-clause-inside : goal.returns-clause-inside
returns-clause-inside c =
    let run = c.args.run.now in
    let all : c.loop-node.node ≡ length run.program.tree.nodes = omega (arith, c.len-node-end.ensures, c.loop-node-test.false, c.loop-node.auto.node-end) in
    λ inside. filled_inside run c.args.x.now c.args.choice c.loop-node.node _ inside all c.loop-node.invariant
