use Rattle.candidates.proofs.Costing.{best_above, best_least, best_plan, best_price}
use Rattle.candidates.proofs.laws.candidates_cost_plans.Goals as goal

pub returns-clause-plan : goal.returns-clause-plan
returns-clause-plan c = best_plan

pub returns-clause-price : goal.returns-clause-price
returns-clause-price c = best_price

pub returns-clause-least : goal.returns-clause-least
returns-clause-least c = best_least

pub returns-clause-optimum : goal.returns-clause-optimum
returns-clause-optimum c = best_above
