use Rattle.std.proofs.Common.{arith, ◌≡◌}
use Rattle.candidates.proofs.FilledIn.{filled_node}
use Rattle.candidates.proofs.filling.fill_node.Goals as goal

pub returns : goal.returns
returns c =
    let run = c.args.run.now in
    let all : c.loop-column.column ≡ run.nonleaf = omega (arith, c.loop-column-test.false, c.loop-column.auto.column-end) in
    filled_node run c.args.x.now c.args.choice c.args.node c.loop-column.column c.loop-column.values all c.loop-column.invariant
