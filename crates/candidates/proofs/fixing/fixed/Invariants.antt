use Rattle.std.proofs.Common.{◌≡◌}
use Rattle.boxed_problem.specs.Data.{problem_of}
use Rattle.candidates.specs.Values.{given}
use Rattle.candidates.specs.Fixing.{LieBelow, fixed_below}
use Rattle.candidates.proofs.fixing.fixed.Given as goal

abbrev pub invariant-loop-column : goal.invariant-loop-column
invariant-loop-column l = record {
  fixed : problem_of l.problem ≡ fixed_below l.run (given l.run l.candidate) l.scenario l.column;
  lie : LieBelow l.run (given l.run l.candidate) l.scenario l.column;
}
