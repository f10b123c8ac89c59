use Rattle.boxed_problem.specs.Data.{problem_of}
use Rattle.propagate.specs.Tightening.{HoldsSame}
use Rattle.propagate.proofs.rows.tighten_all.Given as goal

abbrev pub invariant-loop-row : goal.invariant-loop-row
invariant-loop-row l = HoldsSame (problem_of l.problem) l.initial.sides l.sides
