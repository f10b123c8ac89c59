use Rattle.boxed_problem.specs.Data.{problem_of}
use Rattle.branch_bound.proofs.BetterLaws.{narrows_self}
use Rattle.branch_bound.proofs.narrowing.narrow_by_ray.Goals as goal

pub returns-in_default-clause-narrows : goal.returns-in_default-clause-narrows
returns-in_default-clause-narrows c = narrows_self (problem_of c.args.problem.now) c.args.best.now c.args.trail.now
