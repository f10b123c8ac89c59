use Rattle.agreement.proofs.Agreed.{agreed_is_plan}
use Rattle.agreement.proofs.laws.agreed_points_are_a_plan.Goals as goal

pub returns : goal.returns
returns c = agreed_is_plan
