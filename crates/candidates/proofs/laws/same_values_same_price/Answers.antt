use Rattle.candidates.proofs.Costing.{price_same}
use Rattle.candidates.proofs.laws.same_values_same_price.Goals as goal

pub returns : goal.returns
returns c = price_same
