use Rattle.boxed_problem.specs.Data.{problem_of}
use Rattle.propagate.specs.Tightening.{HoldsSame}
use Rattle.propagate.proofs.rows.tighten.Given as goal

abbrev pub invariant-loop : goal.invariant-loop
invariant-loop l = HoldsSame (problem_of l.problem) l.initial.sides l.sides
