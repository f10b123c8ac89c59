-- A column's line as the reader takes it apart, and what the columns are after each part.
use Rattle.std.specs.Prelude.{◌≡◌, ℕ, ◌+◌, ◌≤◌, ◌<◌, Bool, true, false, ◌||◌, List, [], ◌∷◌, ◌++◌, length, Option, Some, None, is_none, IfSome, if◌then◌else◌}
use Rattle.std.specs.Option.{option_map_or}
use Rattle.line_core.specs.Names.{number_of}
use Rattle.smps_words.specs.CoreFacts.{IsShort, max_columns}
use Rattle.smps_words.specs.TextLines.{TextLine, field}
use Rattle.core_lines.specs.ColumnLines.{begins, cell_for, column_number, grown, has_cell, has_second, is_same_row}
use Rattle.core_lines.specs.Parts.{RowsSaid, ColumnsSaid}
use Rattle.core_lines.specs.States.{pair_at, with_cells}
use Rattle.core_lines.specs.declared.cells.Cell.{Cell}
use Rattle.core_lines.specs.declared.column_lines.ColumnLine.{ColumnLine}
use Rattle.core_lines.specs.declared.pairs.RowPair.{RowPair}

-- the last column, or the next one
abbrev pub IsLast : List (List ℕ) → ℕ → Type 0
IsLast names column = (column ≤ length names) × (length names ≤ column + 1)

-- the second pair of a line, if it has one
abbrev pub second_at : RowsSaid → TextLine → Option RowPair
second_at rows line = if has_second line then Some (pair_at rows 3 line) else None

-- the parts of a line
abbrev pub IsColumnLine : RowsSaid → ColumnsSaid → TextLine → ColumnLine → Type 0
IsColumnLine rows columns line parsed =
    (parsed.column ≡ column_number columns.names (field 0 line))
    × (parsed.begins ≡ begins columns.names line)
    × (parsed.first ≡ pair_at rows 1 line)
    × (parsed.second ≡ second_at rows line)

-- whether an entry of the parts is there already
abbrev pub repeats_second : List Cell → ColumnLine → Bool
repeats_second cells parsed = option_map_or
    (λ (p : RowPair). has_cell cells p.row parsed.column || is_same_row parsed.first.row p.row)
    parsed.second false

abbrev pub repeats_pairs : List Cell → ColumnLine → Bool
repeats_pairs cells parsed =
    has_cell cells parsed.first.row parsed.column || repeats_second cells parsed

-- the parts can be taken up: there is place for a column that begins, another is the last one, and
-- nothing comes twice
pub record CanTake (columns : ColumnsSaid) (parsed : ColumnLine) : Type 0 where
  pub place : parsed.begins ≡ true → length columns.names < max_columns
  pub next : parsed.begins ≡ true → parsed.column ≡ length columns.names
  pub last : parsed.begins ≡ false → parsed.column + 1 ≡ length columns.names
  pub fresh : repeats_pairs columns.cells parsed ≡ false

abbrev pub ArePairsShort : ColumnLine → Type 0
ArePairsShort parsed =
    IsShort parsed.first.value × IfSome parsed.second (λ (p : RowPair). IsShort p.value)

abbrev pub ArePairsPlaced : ℕ → ColumnLine → Type 0
ArePairsPlaced count parsed = IfSome parsed.first.row (λ row. row ≤ count)
    × IfSome parsed.second (λ (p : RowPair). IfSome p.row (λ row. row ≤ count))

-- the columns where a line of the column of this name is taken up, without its pairs
abbrev pub column_begun : ColumnsSaid → List ℕ → ColumnsSaid
column_begun columns name = record {
  names = grown columns.names name;
  flags =
      columns.flags ++ (if is_none (number_of name columns.names) then columns.marked ∷ [] else []);
  marked = columns.marked;
  going = true;
  cells = columns.cells;
}

-- the cells of the second pair
abbrev pub second_cells : Option RowPair → ℕ → ℕ → List Cell
second_cells None column number = []
second_cells (Some p) column number = cell_for p.row column p.value number

-- the cells of the parts
abbrev pub cells_of_parts : ColumnLine → ℕ → List Cell
cells_of_parts parsed number = cell_for parsed.first.row parsed.column parsed.first.value number
    ++ second_cells parsed.second parsed.column number

-- the columns with the parts taken up
abbrev pub taken : ColumnsSaid → List ℕ → ColumnLine → ℕ → ColumnsSaid
taken columns name parsed number =
    with_cells (column_begun columns name) (columns.cells ++ cells_of_parts parsed number)
