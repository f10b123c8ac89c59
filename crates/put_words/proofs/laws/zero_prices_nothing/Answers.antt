use Rattle.put_words.proofs.Unpriced.{dual_of_nothing}
use Rattle.put_words.proofs.laws.zero_prices_nothing.Goals as goal

pub returns : goal.returns
returns c = dual_of_nothing
