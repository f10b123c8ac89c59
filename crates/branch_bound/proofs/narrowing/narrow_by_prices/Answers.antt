use Rattle.boxed_problem.specs.Data.{problem_of}
use Rattle.branch_bound.proofs.BetterLaws.{narrows_trans}
use Rattle.branch_bound.proofs.narrowing.narrow_by_prices.Goals as goal

pub returns-clause-narrows : goal.returns-clause-narrows
returns-clause-narrows c = narrows_trans (problem_of c.args.problem.now) c.args.best.now c.args.trail.now c.narrow_by.new.trail _ c.in_ok-narrow_by.ensures.narrows c.in_ok-some.ensures.narrows
