use Rattle.plan_calls.proofs.MultiplierDecisions.{balanced_none, sized_none}
use Rattle.plan_calls.proofs.laws.multipliers_are_decided.Goals as goal

pub returns-clause-sized : goal.returns-clause-sized
returns-clause-sized c = sized_none

pub returns-clause-balanced : goal.returns-clause-balanced
returns-clause-balanced c = balanced_none
