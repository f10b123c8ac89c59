use Rattle.std.proofs.Common.{◌≡◌}
use Rattle.boxed_problem.specs.Data.{problem_of}
use Rattle.branch_bound.specs.Bettering.{Narrows}
use Rattle.branch_bound.proofs.bettering.narrow_by.Given as goal

abbrev pub invariant-loop-column : goal.invariant-loop-column
invariant-loop-column l = record { narrows : Narrows (problem_of l.problem) l.best l.initial.trail l.trail; same : l.sparse ≡ l.trail.sparse.value }
