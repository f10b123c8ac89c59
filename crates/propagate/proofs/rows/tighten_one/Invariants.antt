use Rattle.boxed_problem.specs.Data.{problem_of}
use Rattle.propagate.specs.Tightening.{HoldsSame}
use Rattle.propagate.proofs.rows.tighten_one.Given as goal

abbrev pub invariant-loop-place : goal.invariant-loop-place
invariant-loop-place l = HoldsSame (problem_of l.problem) l.initial.sides l.sides
