use Rattle.dual_value.proofs.Existing.{dual_there}
use Rattle.dual_value.proofs.laws.points_make_duals.Goals as goal

pub returns : goal.returns
returns c = dual_there
