use Rattle.candidates.proofs.Costing.{price_none}
use Rattle.candidates.proofs.laws.no_point_no_price.Goals as goal

pub returns : goal.returns
returns c = price_none
