-- What lines say, and the fault of a line by the lines before it.
use Rattle.std.specs.Prelude.{ℕ, Bool, false, not, ◌&&◌, List, [], ◌∷◌, fold, Option, Some, if◌then◌else◌}
use Rattle.std.specs.List.{list_any}
use Rattle.smps_words.specs.Outcomes.{all_told, last_or, first_or_none}
use Rattle.smps_words.specs.TextLines.{TextLine}
use Rattle.core_lines.specs.BoundLines.{bound_set, bounds_in, bounds_next, bound_fault}
use Rattle.core_lines.specs.ColumnLines.{grown, words_in, flags_in, marks_in, is_marker, cells_in, columns_next, column_fault}
use Rattle.core_lines.specs.Headers.{is_rows, is_columns, is_rights, is_ranges, is_bounds, is_ending, section_of_word, headers_next, header_fault}
use Rattle.core_lines.specs.Parts.{HeadersSaid, RowsSaid, ColumnsSaid, SidesSaid, BoundsSaid, Before}
use Rattle.core_lines.specs.RowLines.{names_in, kinds_in, frees_in, rows_next, row_fault}
use Rattle.core_lines.specs.SideLines.{set_name, sides_in, sides_next, side_fault}
use Rattle.core_lines.specs.declared.cells.Cell.{Cell}
use Rattle.core_lines.specs.declared.kinds.CoreKind.{CoreKind}
use Rattle.core_lines.specs.declared.kinds.CoreKind.TheVariants as kinds
use Rattle.core_lines.specs.declared.words.Section.{Section}
use Rattle.core_lines.specs.declared.words.Section.TheVariants.{Start, Rows, Columns, Rights, Ranges, Bounds}

-- the section of the last header
abbrev pub section_of : List TextLine → Section
section_of lines = last_or Start
    (all_told (λ before line. if line.header then section_of_word line ∷ [] else []) [] lines)

-- whether a header of this section stands among the lines
abbrev pub has_stood : (Section → Bool) → List TextLine → Bool
has_stood is lines = list_any (λ (line : TextLine). line.header && is (section_of_word line)) lines

abbrev pub headers_of : List TextLine → HeadersSaid
headers_of lines = record {
  section = section_of lines;
  rights = has_stood is_rights lines;
  ranges = has_stood is_ranges lines;
  bounds = has_stood is_bounds lines;
}

-- whether a line behind these is a data line of this section
abbrev pub is_within : (Section → Bool) → Section → TextLine → Bool
is_within is section line = not line.header && is section

-- all that the data lines of a section say, each by the lines before it
abbrev pub said_in : {X : Type 0} → (Section → Bool) → (List TextLine → TextLine → List X)
    → List TextLine → List X
said_in is says lines = all_told
    (λ before line. if is_within is (section_of before) line then says before line else []) [] lines

-- ROWS
abbrev pub rows_of : List TextLine → RowsSaid
rows_of lines = record {
  names = said_in is_rows (λ before line. names_in line) lines;
  kinds = said_in is_rows (λ before line. kinds_in line) lines;
  frees = said_in is_rows (λ before line. frees_in line) lines;
}

-- COLUMNS: each name once, in the order of their first lines
abbrev pub column_names_of : List TextLine → List (List ℕ)
column_names_of lines = fold grown [] (said_in is_columns (λ before line. words_in line) lines)

abbrev pub marked_of : List TextLine → Bool
marked_of lines = last_or false (said_in is_columns (λ before line. marks_in line) lines)

abbrev pub cells_of : List TextLine → List Cell
cells_of lines =
    said_in is_columns (λ before line. cells_in (rows_of before) (column_names_of before) line)
    lines

abbrev pub columns_of : List TextLine → ColumnsSaid
columns_of lines = record {
  names = column_names_of lines;
  flags = said_in is_columns
      (λ before line. flags_in (column_names_of before) (marked_of before) line) lines;
  marked = marked_of lines;
  going = last_or false (said_in is_columns (λ before line. not (is_marker line) ∷ []) lines);
  cells = cells_of lines;
}

-- RHS and RANGES
abbrev pub side_set_of : (Section → Bool) → List TextLine → Option (List ℕ)
side_set_of is lines = first_or_none (said_in is (λ before line. set_name line ∷ []) lines)

abbrev pub sides_of : (Section → Bool) → List TextLine → SidesSaid
sides_of is lines = record {
  set = side_set_of is lines;
  values = said_in is (λ before line. sides_in (rows_of before) (side_set_of is before) line) lines;
}

-- BOUNDS
abbrev pub bound_set_of : List TextLine → Option (List ℕ)
bound_set_of lines = first_or_none (said_in is_bounds (λ before line. bound_set line ∷ []) lines)

abbrev pub bounds_of : List TextLine → BoundsSaid
bounds_of lines = record {
  set = bound_set_of lines;
  bounds = said_in is_bounds
      (λ before line. bounds_in (column_names_of before) (bound_set_of before) line) lines;
}

-- all of them
abbrev pub before_of : List TextLine → Before
before_of lines = record {
  headers = headers_of lines;
  rows = rows_of lines;
  columns = columns_of lines;
  rights = sides_of is_rights lines;
  ranges = sides_of is_ranges lines;
  bounds = bounds_of lines;
}

-- what all of them are after one more line
abbrev pub next : Before → TextLine → Before
next b line = record {
  headers = headers_next line.header b.headers line;
  rows = rows_next (is_within is_rows b.headers.section line) b.rows line;
  columns = columns_next (is_within is_columns b.headers.section line) b.rows b.columns line;
  rights = sides_next (is_within is_rights b.headers.section line) b.rows b.rights line;
  ranges = sides_next (is_within is_ranges b.headers.section line) b.rows b.ranges line;
  bounds = bounds_next (is_within is_bounds b.headers.section line) b.columns.names b.bounds line;
}

-- the fault of a data line in a section
abbrev pub data_fault : Section → Before → TextLine → Option CoreKind
data_fault Rows b line = row_fault b.rows line
data_fault Columns b line = column_fault b.rows b.columns line
data_fault Rights b line = side_fault b.rows b.rights line
data_fault Ranges b line = side_fault b.rows b.ranges line
data_fault Bounds b line = bound_fault b.columns.names b.bounds line
data_fault _ b line = Some kinds.Section

-- the fault of a line behind what stands before it
abbrev pub line_fault : Before → TextLine → Option CoreKind
line_fault b line = if line.header then header_fault b line else data_fault b.headers.section b line

-- the header ENDATA ends the file
abbrev pub is_end_header : TextLine → Bool
is_end_header line = line.header && is_ending (section_of_word line)
