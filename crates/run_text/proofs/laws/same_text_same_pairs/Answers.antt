use Rattle.run_text.proofs.Same.{tell_the_same}
use Rattle.run_text.proofs.laws.same_text_same_pairs.Goals as goal

pub returns : goal.returns
returns c = tell_the_same
