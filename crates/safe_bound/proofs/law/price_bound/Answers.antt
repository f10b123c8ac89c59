use Rattle.boxed_problem.specs.Data.{problem_of}
use Rattle.safe_bound.specs.PriceBound.{price_total}
use Rattle.safe_bound.proofs.PriceLaws.{bound_below, by_columns, ceiling_only}
use Rattle.safe_bound.proofs.law.price_bound.Goals as goal

pub returns-clause-below : goal.returns-clause-below
returns-clause-below c = λ b prices sides v x f w p g i. bound_below (problem_of b) prices sides v b.facts.places f w p x g i

pub returns-clause-only : goal.returns-clause-only
returns-clause-only c = λ b prices sides v w f p q. ceiling_only (price_total (problem_of b) prices sides) prices.scale v w f.scale p q

pub returns-clause-columns : goal.returns-clause-columns
returns-clause-columns c = λ b prices x. by_columns (problem_of b) prices x b.facts.places
