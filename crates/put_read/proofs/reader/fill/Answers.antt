use Rattle.std.proofs.Common.{arith}
use Rattle.put_read.proofs.Putting.{filling_ends, filling_more, part_inside, places_free}
use Rattle.put_read.proofs.reader.fill.Goals as goal

pub take_part-requires-clause-places : goal.take_part-requires-clause-places
take_part-requires-clause-places c = places_free c.args.layout.now c.args.reader.now c.args.number c.loop-rank.put c.loop-rank.rank (omega (arith, c.loop-rank-test.true, c.loop-rank.auto.rank-end)) c.requires.short c.loop-rank.invariant c.part.result.now c.start.result c.part.ensures c.start.ensures.value

pub take_part-requires-clause-small : goal.take_part-requires-clause-small
take_part-requires-clause-small c = part_inside c.args.layout.now c.args.reader.now c.args.number c.loop-rank.put c.loop-rank.rank (omega (arith, c.loop-rank-test.true, c.loop-rank.auto.rank-end)) c.requires.short c.loop-rank.invariant c.part.result.now c.start.result c.part.ensures c.start.ensures.value c.requires.small

pub loop-rank-preserved : goal.loop-rank-preserved
loop-rank-preserved c = filling_more c.args.layout.now c.args.reader.now c.args.number c.loop-rank.put c.loop-rank.rank (omega (arith, c.loop-rank-test.true, c.loop-rank.auto.rank-end)) c.requires.short c.loop-rank.invariant c.part.result.now c.start.result c.take_part.new.put c.part.ensures c.start.ensures.value c.take_part.ensures.shape c.take_part.ensures.agrees

pub returns-clause-put : goal.returns-clause-put
returns-clause-put c = filling_ends c.args.layout.now c.args.reader.now c.args.number c.loop-rank.put c.loop-rank.rank (omega (arith, c.loop-rank-test.false, c.loop-rank.auto.rank-end)) c.requires.some c.loop-rank.invariant
