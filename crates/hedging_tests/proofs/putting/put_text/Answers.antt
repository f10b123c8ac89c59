use Rattle.hedging.specs.Hedges.{made_of}
use Rattle.put_words.proofs.Inside.{put_long}
use Rattle.put_words.proofs.Rises.{put_sized}
use Rattle.hedging_tests.proofs.putting.put_text.Goals as goal

pub dual-value-requires-clause-long : goal.dual-value-requires-clause-long
dual-value-requires-clause-long c = put_long c.args.run.now c.args.hedge.now.put.number (made_of c.args.hedge.now) c.requires.put

pub dual-value-requires-clause-sized : goal.dual-value-requires-clause-sized
dual-value-requires-clause-sized c = put_sized c.args.run.now c.args.hedge.now.put.number (made_of c.args.hedge.now) c.requires.few c.requires.put
