use Rattle.std.proofs.Common.{◌≡◌}
use Rattle.boxed_problem.specs.Data.{problem_of}
use Rattle.branch_bound.proofs.suggesting.simplex_on.Given as goal

abbrev pub invariant-loop : goal.invariant-loop
invariant-loop l = problem_of l.simplex.problem.value ≡ problem_of l.problem
