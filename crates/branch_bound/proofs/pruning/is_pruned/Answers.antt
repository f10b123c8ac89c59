use Rattle.boxed_problem.specs.Data.{problem_of}
use Rattle.propagate.proofs.TightLaws.{trail_within}
use Rattle.branch_bound.proofs.pruning.is_pruned.Goals as goal

pub least_value-requires : goal.least_value-requires
least_value-requires c = trail_within (problem_of c.args.problem.now) c.args.sparse.now c.args.trail.now c.requires.sparse c.requires.of
