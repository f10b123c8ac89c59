use Rattle.hedging.specs.Hedges.{made_of}
use Rattle.put_words.proofs.Unpriced.{put_points}
use Rattle.spoke_tests.proofs.spokes.played.Goals as goal

pub new-requires-clause-points : goal.new-requires-clause-points
new-requires-clause-points c = put_points c.args.run.now 1 (made_of c.in-Ok.hedge) c.in-Ok.ensures.ok.0
