use Rattle.std.proofs.Common.{arith}
use Rattle.put_read.proofs.Taking.{taking_more}
use Rattle.put_read.proofs.filling.take_part.Goals as goal

pub loop-index-preserved : goal.loop-index-preserved
loop-index-preserved c =
    taking_more c.args.words.now c.args.start c.args.put.now c.loop-index.put c.set_cell.new.put c.loop-index.index c.cell_of.result.multiplier c.cell_of.result.x (omega (arith, c.loop-index-test.true, c.loop-index.auto.index-end)) c.loop-index.invariant c.cell_of.ensures c.set_cell.ensures.shape c.set_cell.ensures.agrees
