-- Lines of COLUMNS: markers, and a column's name with one or two pairs of row and value.
use Rattle.std.specs.Prelude.{ℕ, ◌+◌, ◌==◌, Bool, true, false, not, ◌&&◌, ◌||◌, List, [], ◌∷◌, ◌++◌, length, fold, Option, Some, None, is_none, unwrap_or, nat_le, if◌then◌else◌}
use Rattle.std.specs.List.{list_any}
use Rattle.std.specs.Option.{option_map_or}
use Rattle.std.specs.Str.{bytes_eq}
use Rattle.line_core.specs.Names.{number_of}
use Rattle.dec_core.specs.declared.decimal.Decimal.{Decimal}
use Rattle.smps_words.specs.CoreFacts.{max_columns}
use Rattle.smps_words.specs.NumberFields.{number_fault, number_in}
use Rattle.smps_words.specs.Outcomes.{last_or}
use Rattle.smps_words.specs.Tables.{first_true, ◌or◌}
use Rattle.smps_words.specs.TextLines.{TextLine, field, field_count}
use Rattle.core_lines.specs.Parts.{RowsSaid, ColumnsSaid}
use Rattle.core_lines.specs.RowLines.{is_unknown, row_place}
use Rattle.core_lines.specs.Words.{marker_word, begin_word, end_word, kind_of_number}
use Rattle.core_lines.specs.declared.cells.Cell.{Cell}
use Rattle.core_lines.specs.declared.kinds.CoreKind.{CoreKind}
use Rattle.core_lines.specs.declared.kinds.CoreKind.TheVariants.{Fields, Twice, Limit, UnknownRow}

-- a line that begins or ends the integer columns
abbrev pub is_marker : TextLine → Bool
is_marker line = bytes_eq (field 1 line) marker_word

-- a name that stands behind the names so far, unless it is there
abbrev pub grown : List (List ℕ) → List ℕ → List (List ℕ)
grown names name = if is_none (number_of name names) then names ++ name ∷ [] else names

-- the number of a column: that of its name, or the next one for a new name
abbrev pub column_number : List (List ℕ) → List ℕ → ℕ
column_number names name = unwrap_or (number_of name names) (length names)

-- whether a line begins a column
abbrev pub begins : List (List ℕ) → TextLine → Bool
begins names line = is_none (number_of (field 0 line) names)

-- the entry or cost of a pair, unless its row is ignored
abbrev pub cell_for : Option ℕ → ℕ → Decimal → ℕ → List Cell
cell_for None column value number = []
cell_for (Some place) column value number = record {
  row = place;
  column = column;
  value = value;
  line = number;
} ∷ []

-- that of the pair at field k of a line
abbrev pub cell_in : RowsSaid → List (List ℕ) → ℕ → TextLine → List Cell
cell_in rows names k line = cell_for (row_place rows (field k line))
    (column_number names (field 0 line)) (number_in (field (k + 1) line)) line.number

-- whether a line has a second pair
abbrev pub has_second : TextLine → Bool
has_second line = field_count line == 5

-- what a line adds to the names of the columns, to their flags, to the markers, and to the entries
-- and costs
abbrev pub words_in : TextLine → List (List ℕ)
words_in line = if is_marker line then [] else field 0 line ∷ []

abbrev pub flags_in : List (List ℕ) → Bool → TextLine → List Bool
flags_in names marked line =
    if is_marker line then [] else (if begins names line then marked ∷ [] else [])

abbrev pub marks_in : TextLine → List Bool
marks_in line = if is_marker line then bytes_eq (field 2 line) begin_word ∷ [] else []

abbrev pub cells_in : RowsSaid → List (List ℕ) → TextLine → List Cell
cells_in rows names line =
    if is_marker line then []
    else (cell_in rows names 1 line ++ (if has_second line then cell_in rows names 3 line else []))

-- what the columns are after one more line, if it is a line of COLUMNS
abbrev pub columns_next : Bool → RowsSaid → ColumnsSaid → TextLine → ColumnsSaid
columns_next false rows columns line = columns
columns_next true rows columns line = record {
  names = fold grown columns.names (words_in line);
  flags = columns.flags ++ flags_in columns.names columns.marked line;
  marked = last_or columns.marked (marks_in line);
  going = not (is_marker line);
  cells = columns.cells ++ cells_in rows columns.names line;
}

-- whether a cell is that of a place
abbrev pub is_cell_of : ℕ → ℕ → Cell → Bool
is_cell_of place column cell = (cell.row == place) && (cell.column == column)

-- whether a row that isn't ignored has an entry in a column already
abbrev pub has_cell : List Cell → Option ℕ → ℕ → Bool
has_cell cells place column = option_map_or (λ r. list_any (is_cell_of r column) cells) place false

-- whether two rows are the same and aren't ignored
abbrev pub is_same_row : Option ℕ → Option ℕ → Bool
is_same_row None other = false
is_same_row (Some place) None = false
is_same_row (Some place) (Some other) = place == other

-- the fault of a pair of row and value at field k
abbrev pub pair_fault : RowsSaid → ℕ → TextLine → Option CoreKind
pair_fault rows k line =
    first_true ((is_unknown rows (field k line), UnknownRow) ∷ [])
    or number_fault kind_of_number (field (k + 1) line)

-- whether the lines of a column stand together: it begins with this line, or the line before is its
-- own
abbrev pub stands_together : ColumnsSaid → TextLine → Bool
stands_together columns line =
    begins columns.names line
    || (columns.going && (column_number columns.names (field 0 line) + 1
    == length columns.names))

-- whether a line has an entry that is there already
abbrev pub repeats : RowsSaid → ColumnsSaid → TextLine → Bool
repeats rows columns line =
    has_cell columns.cells (row_place rows (field 1 line))
    (column_number columns.names (field 0 line))
    || (has_second line && (has_cell columns.cells (row_place rows (field 3 line))
    (column_number columns.names (field 0 line))
    || is_same_row (row_place rows (field 1 line)) (row_place rows (field 3 line))))

-- the fault of a marker: three fields, of which the third begins or ends
abbrev pub marker_fault : TextLine → Option CoreKind
marker_fault line = first_true (
    (not (field_count line == 3), Fields)
    ∷ (not (bytes_eq (field 2 line) begin_word || bytes_eq (field 2 line) end_word), Fields)
    ∷ [])

-- the fault of a column's line: three or five fields, at most 5000 columns, the pairs, and nothing
-- twice
abbrev pub pairs_fault : RowsSaid → ColumnsSaid → TextLine → Option CoreKind
pairs_fault rows columns line =
    first_true (
    (not ((field_count line == 3) || has_second line), Fields)
    ∷ (begins columns.names line && nat_le max_columns (length columns.names), Limit)
    ∷ [])
    or pair_fault rows 1 line
    or (if has_second line then pair_fault rows 3 line else None)
    or first_true (
    (not (stands_together columns line), Twice)
    ∷ (repeats rows columns line, Twice)
    ∷ [])

abbrev pub column_fault : RowsSaid → ColumnsSaid → TextLine → Option CoreKind
column_fault rows columns line =
    if is_marker line then marker_fault line else pairs_fault rows columns line
