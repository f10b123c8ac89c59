use Rattle.std.proofs.Common.{arith, refl, sym, ◌∙◌}
use Rattle.agreement.specs.Agreeing.{AreOneBelow}
use Rattle.agreement.proofs.Agreed.{agreed_nodes, nodes_agree}
use Rattle.agreement.proofs.Tests.{one_more}
use Rattle.agreement.proofs.agreeing.agrees.Goals as goal

pub returns-then-not-is_one : goal.returns-then-not-is_one
returns-then-not-is_one c =
    let run = c.args.run.now in
    (λ t. absurd (let x = t in cc), λ all. sym c.if-not-is_one.true ∙ c.is_one.ensures.1 (agreed_nodes run c.args.x.now c.loop-node.node all (omega (arith, c.loop-node-test.true, c.len-node-end.ensures))))

pub loop-node-preserved : goal.loop-node-preserved
loop-node-preserved c = one_more (λ i. AreOneBelow c.args.run.now c.args.x.now i c.args.run.now.nonleaf) c.loop-node.node c.loop-node.invariant (c.is_one.ensures.0 c.if-not-is_one.false)

pub returns : goal.returns
returns c =
    let run = c.args.run.now in
    (λ t. nodes_agree run c.args.x.now (λ i l. c.loop-node.invariant i (omega (arith, l, c.loop-node-test.false, c.len-node-end.ensures))), λ all. refl)
