use Rattle.put_words.proofs.Unpriced.{dual_none}
use Rattle.put_words.proofs.laws.no_dual_no_plan.Goals as goal

pub returns : goal.returns
returns c = dual_none
