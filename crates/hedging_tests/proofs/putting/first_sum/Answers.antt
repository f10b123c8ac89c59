use Rattle.hedging.specs.Hedges.{made_of}
use Rattle.put_words.proofs.Inside.{put_inside}
use Rattle.hedging_tests.proofs.putting.first_sum.Goals as goal

pub node_sum-requires-clause-inside : goal.node_sum-requires-clause-inside
node_sum-requires-clause-inside c = put_inside c.args.run.now c.args.hedge.now.put.number (made_of c.args.hedge.now) c.requires.put
