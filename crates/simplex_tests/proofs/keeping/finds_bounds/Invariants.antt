use Rattle.std.proofs.Common.{◌≡◌}
use Rattle.boxed_problem.specs.Data.{problem_of}
use Rattle.simplex_tests.proofs.keeping.finds_bounds.Given as goal

abbrev pub invariant-loop-column : goal.invariant-loop-column
invariant-loop-column l = problem_of l.simplex.problem.value ≡ problem_of l.problem
