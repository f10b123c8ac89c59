use Rattle.boxed_problem.specs.Data.{problem_of}
use Rattle.propagate.proofs.TightLaws.{trail_within}
use Rattle.branch_bound.proofs.narrowing.narrow_again.Goals as goal

pub raise_prices-requires-clause-sides : goal.raise_prices-requires-clause-sides
raise_prices-requires-clause-sides c = trail_within (problem_of c.args.problem.now) c.args.sparse.now c.args.trail.now c.requires.sparse c.requires.of
