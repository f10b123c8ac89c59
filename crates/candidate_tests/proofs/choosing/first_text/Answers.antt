use Rattle.hedging.specs.Hedges.{made_of}
use Rattle.put_words.proofs.Inside.{put_inside}
use Rattle.candidate_tests.proofs.choosing.first_text.Goals as goal

pub candidates_text-requires : goal.candidates_text-requires
candidates_text-requires c = put_inside c.args.run.now 1 (made_of c.in-Ok.hedge) c.in-Ok.ensures.ok.0
