use Rattle.scenario_lists.proofs.Order.{in_order}
use Rattle.scenario_lists.proofs.laws.combinations_in_order.Goals as goal

pub returns : goal.returns
returns c = in_order
