-- By how much a change moves the activity of a row.

use Rattle.std.specs.Prelude.{◌≡◌, ℕ, ◌*◌, ◌^◌, ◌<◌, ◌≤◌, List, length, ℤ, pos, ◌-ℤ◌, unsigned_abs}
use Rattle.base_words.specs.Sums.{number_at}
use Rattle.boxed_problem.specs.Rows.{activity_part}
use Rattle.boxed_problem.specs.declared.parts.Entry.{Entry}
use Rattle.sp_model.specs.Changes.{Data}
use Rattle.sp_model.specs.Values.{cell_in}
use Rattle.sp_model.specs.declared.program.Change.{Change}
use Rattle.sp_model.specs.declared.program.Change.TheVariants as change

-- an entry of a row and a column
abbrev pub cell : ℕ → ℕ → ℤ → Entry
cell row column value = record { row = row; column = column; value = value }

-- the entry that some data have at a row and a column, of the value 0 where they have none
abbrev pub entry_in : Data → ℕ → ℕ → Entry
entry_in d row column = cell row column (cell_in d row column)

-- the part of a change's entry in row i's activity at a point, less that of the data's entry at its
-- place
abbrev pub move_of : Data → List ℤ → ℕ → Change → ℤ
move_of d x i (change.Cost column value) = pos 0
move_of d x i (change.Cell row column value) =
    activity_part x i (cell row column value) -ℤ activity_part x i (entry_in d row column)
move_of d x i (change.Limits row lower upper) = pos 0

-- an entry of a column of the point, whose part in row i's activity is small
abbrev pub IsSmallPart : List ℤ → ℕ → Entry → Type 0
IsSmallPart x i e = (e.column < length x)
    × (e.row ≡ i → unsigned_abs e.value * unsigned_abs (number_at x e.column) ≤ 2 ^ 122)

-- both parts of a change's move are small
abbrev pub IsSmallMove : Data → List ℤ → ℕ → Change → Type 0
IsSmallMove d x i (change.Cost column value) = Unit {0}
IsSmallMove d x i (change.Cell row column value) =
    IsSmallPart x i (cell row column value) × IsSmallPart x i (entry_in d row column)
IsSmallMove d x i (change.Limits row lower upper) = Unit {0}
