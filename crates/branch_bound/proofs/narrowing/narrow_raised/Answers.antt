use Rattle.boxed_problem.specs.Data.{problem_of}
use Rattle.branch_bound.proofs.BetterLaws.{narrows_trans}
use Rattle.branch_bound.proofs.Steps.{none_kept}
use Rattle.branch_bound.proofs.narrowing.narrow_raised.Goals as goal

pub returns-clause-narrows : goal.returns-clause-narrows
returns-clause-narrows c = narrows_trans (problem_of c.args.problem.now) c.args.best.now c.args.trail.now c.narrow_by_ray.new.trail _ c.in_ok-narrow_by_ray.ensures.narrows c.in_ok-some.ensures.narrows

pub returns-clause-none : goal.returns-clause-none
returns-clause-none c = λ e. none_kept (problem_of c.args.problem.now) c.args.best.now c.args.trail.now.sides c.narrow_by_ray.new.trail.sides c.in_ok-narrow_by_ray.ensures.narrows.keeps (c.in_ok-some.ensures.none e)
