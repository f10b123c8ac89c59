-- the worked example SMALL: two columns from 0 to 10 with the costs 10 and 30, and one row that
-- asks for a need
use Rattle.std.specs.Prelude.{[], ◌∷◌, ℤ, pos, Some, None}
use Rattle.boxed_problem.specs.Data.{Problem}
use Rattle.boxed_problem.specs.declared.parts.Side.{Side}

-- a column's side from 0 to 10
abbrev pub ten : Side
ten = record { lower = pos 0; upper = pos 10 }

-- the scenario problem with a need
abbrev pub small_of : ℤ → Problem
small_of need = record {
  columns = ten ∷ ten ∷ [];
  rows = (record { lower = Some need; upper = None }) ∷ [];
  entries = (record { row = 0; column = 0; value = pos 1 })
      ∷ (record { row = 0; column = 1; value = pos 1 }) ∷ [];
  constant = pos 0;
  line = pos 10 ∷ pos 30 ∷ [];
  square = pos 0 ∷ pos 0 ∷ [];
}
