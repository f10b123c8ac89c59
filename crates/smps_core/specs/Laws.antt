-- What a stranger asks of the entries and costs: which lines say them, by the names of the whole
-- file.
use Rattle.std.specs.Prelude.{◌≡◌, ℕ, ◌+◌, ◌<◌, true, false, List, length, take, slice_index_or, Some, ◌⊎◌}
use Rattle.line_core.specs.Names.{number_of}
use Rattle.smps_words.specs.NumberFields.{number_in}
use Rattle.smps_words.specs.TextLines.{TextLine, field, no_line}
use Rattle.smps_words.specs.declared.core_data.CoreEntry.{CoreEntry}
use Rattle.core_lines.specs.ColumnLines.{has_second, is_marker}
use Rattle.core_lines.specs.Headers.{is_columns}
use Rattle.core_lines.specs.Lines.{column_names_of, is_within, rows_of, section_of}
use Rattle.core_lines.specs.Parts.{RowsSaid}
use Rattle.core_lines.specs.RowLines.{row_place}
use Rattle.core_lines.specs.declared.cells.Cell.{Cell}

-- each of two facts follows from the other
abbrev pub BothWays : Type 0 → Type 0 → Type 0
BothWays P Q = (P → Q) × (Q → P)

-- a line behind others is a column's line of COLUMNS
abbrev pub IsColumnsLine : List TextLine → TextLine → Type 0
IsColumnsLine before line =
    (is_within is_columns (section_of before) line ≡ true) × (is_marker line ≡ false)

-- the pair at field k of a line has the row, the column, the number and the line's number of a
-- cell, by these rows and names of columns
abbrev pub HasPairAt : RowsSaid → List (List ℕ) → TextLine → ℕ → Cell → Type 0
HasPairAt rows names line k c =
    (row_place rows (field k line) ≡ Some c.row)
    × (number_of (field 0 line) names ≡ Some c.column)
    × (number_in (field (k + 1) line) ≡ c.value)
    × (line.number ≡ c.line)

-- the first pair of a line, or the second
abbrev pub HasPair : RowsSaid → List (List ℕ) → TextLine → Cell → Type 0
HasPair rows names line c =
    HasPairAt rows names line 1 c ⊎ ((has_second line ≡ true) × HasPairAt rows names line 3 c)

-- line n, from 0, is a column's line of COLUMNS and has the pair of a cell, by these rows and the
-- names of the columns of the whole file
abbrev pub SaysCell : RowsSaid → List TextLine → Cell → ℕ → Type 0
SaysCell rows lines c n =
    (n < length lines)
    × IsColumnsLine (take n lines) (slice_index_or lines n no_line)
    × HasPair rows (column_names_of lines) (slice_index_or lines n no_line) c

-- one of the lines says it, by the rows of the lines before that line, or by the rows of the whole
-- file
abbrev pub IsSaid : List TextLine → Cell → Type 0
IsSaid lines c = (n : ℕ) × SaysCell (rows_of (take n lines)) lines c n

abbrev pub IsSaidByAll : List TextLine → Cell → Type 0
IsSaidByAll lines c = (n : ℕ) × SaysCell (rows_of lines) lines c n

-- the cell that an entry comes from
abbrev pub cell_at : CoreEntry → Cell
cell_at e = record { row = e.row + 1; column = e.column; value = e.value; line = e.line }
