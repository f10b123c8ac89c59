-- The columns and rows that a place of a stoch file names.
use Rattle.std.specs.Prelude.{◌<◌, ℕ, List, length}
use Rattle.boxed_problem.specs.declared.parts.Side.{Side}
use Rattle.stoch_lines.specs.declared.places.StochPlace.{StochPlace}
use Rattle.stoch_lines.specs.declared.places.StochPlace.TheVariants.{Cost, Cell, Right}

-- the column that a place names has a box
abbrev pub IsNamed : List Side → StochPlace → Type 0
IsNamed sides (Cost column) = column < length sides
IsNamed sides (Cell row column) = column < length sides
IsNamed sides (Right row) = Unit {0}

-- the row that a place names is one of so many
abbrev pub IsRowNamed : ℕ → StochPlace → Type 0
IsRowNamed rows (Cost column) = Unit {0}
IsRowNamed rows (Cell row column) = row < rows
IsRowNamed rows (Right row) = row < rows
