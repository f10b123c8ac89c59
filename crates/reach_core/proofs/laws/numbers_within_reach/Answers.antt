use Rattle.reach_core.proofs.Within.{total_within, within}
use Rattle.reach_core.proofs.laws.numbers_within_reach.Goals as goal

pub returns-clause-numbers : goal.returns-clause-numbers
returns-clause-numbers c = within

pub returns-clause-total : goal.returns-clause-total
returns-clause-total c = total_within
