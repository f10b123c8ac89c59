-- The order of entries by one number.
use Rattle.std.specs.Prelude.{◌≡◌, ℕ, ◌+◌, ◌*◌, ◌^◌, false, List}
use Rattle.std.specs.List.{AllPairs}
use Rattle.smps_words.specs.declared.core_data.CoreEntry.{CoreEntry}
use Rattle.core_lines.specs.ColumnLines.{is_cell_of}
use Rattle.core_lines.specs.declared.cells.Cell.{Cell}

-- a number that ascends by column, and by row within a column
abbrev pub place_number : CoreEntry → ℕ
place_number e = e.column * 2 ^ 32 + e.row

-- no two of them are of one place
abbrev pub AreApart : List Cell → Type 0
AreApart cells = AllPairs (λ (c d : Cell). is_cell_of d.row d.column c ≡ false) cells
