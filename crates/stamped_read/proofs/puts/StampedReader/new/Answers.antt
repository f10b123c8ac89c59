use Rattle.std.proofs.Common.{ap, arith}
use Rattle.stamped_read.specs.Readers.{fresh_reader}
use Rattle.stamped_read.proofs.Freshness.{fresh_facts, fresh_parts, fresh_stands, parts_more}
use Rattle.stamped_read.proofs.puts.StampedReader.new.Goals as goal

pub loop-rank-preserved : goal.loop-rank-preserved
loop-rank-preserved g c = parts_more (g.M.Meaning.wide c.args.of.now) c.loop-rank.rank c.width.result c.loop-rank.parts.items _ c.in_ok-part.part c.loop-rank.invariant c.width.ensures c.in_ok-part.ensures c.in_ok-push.ensures.items

pub invariant_of-result : goal.invariant_of-result
invariant_of-result g c = fresh_facts (g.M.Meaning.wide c.args.of.now) (g.M.Meaning.lead c.args.of.now) c.loop-rank.rank _ c.loop-rank.invariant (omega (arith, c.leaders-rank-end.ensures)) c.requires

pub returns : goal.returns
returns g c = record {
  fresh = ap (fresh_reader 0) (fresh_parts (g.M.Meaning.wide c.args.of.now) (g.M.Meaning.lead c.args.of.now) c.loop-rank.rank _ c.loop-rank.invariant (omega (arith, c.leaders-rank-end.ensures)));
  reads = λ v. fresh_stands (g.M.Meaning.wide c.args.of.now) (g.M.Meaning.lead c.args.of.now) c.loop-rank.rank _ c.loop-rank.invariant (omega (arith, c.leaders-rank-end.ensures)) (g.M.Meaning.entry c.args.of.now) (g.M.Meaning.count c.args.of.now) v (g.met.M.Meaning.led c.args.of.now);
}
