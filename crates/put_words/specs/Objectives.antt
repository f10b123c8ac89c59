-- A problem with another objective.

use Rattle.std.specs.Prelude.{List, ℤ}
use Rattle.boxed_problem.specs.Data.{Problem}

-- the problem with this constant, line and square
abbrev pub with_objective : Problem → ℤ → List ℤ → List ℤ → Problem
with_objective problem constant line square =
    record problem { constant = constant; line = line; square = square }

-- the problem with this line
abbrev pub with_line : Problem → List ℤ → Problem
with_line problem line = record problem { line = line }
