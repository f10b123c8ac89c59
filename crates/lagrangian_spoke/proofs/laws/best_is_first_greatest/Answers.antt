use Rattle.lagrangian_spoke.proofs.FirstBest.{first_greatest, left_backs, no_value}
use Rattle.lagrangian_spoke.proofs.laws.best_is_first_greatest.Goals as goal

pub returns-clause-some : goal.returns-clause-some
returns-clause-some c = first_greatest

pub returns-clause-none : goal.returns-clause-none
returns-clause-none c = no_value

pub returns-clause-left : goal.returns-clause-left
returns-clause-left c = left_backs
