-- Which lines give names to rows and columns, and that names stand in the order of their first
-- lines.
use Rattle.std.specs.Prelude.{◌≡◌, ◌≢◌, ℕ, ◌<◌, Bool, true, false, not, ◌&&◌, List, [], length, take, slice_index_or, Option, Some, None, if◌then◌else◌}
use Rattle.std.specs.List.{Contains}
use Rattle.line_core.specs.Names.{AreDistinct}
use Rattle.smps_words.specs.TextLines.{TextLine, field, no_line}
use Rattle.smps_words.specs.declared.core_data.RowKind.{RowKind}
use Rattle.core_lines.specs.ColumnLines.{is_marker}
use Rattle.core_lines.specs.Headers.{is_columns, is_rows}
use Rattle.core_lines.specs.Lines.{is_within, section_of}
use Rattle.core_lines.specs.Words.{row_kind_named}

-- a kind of ROWS that is one of L, G and E
abbrev pub is_constraint : Option (Option RowKind) → Bool
is_constraint None = false
is_constraint (Some None) = false
is_constraint (Some (Some kind)) = true

-- the name that a line behind others gives to a constraint row, if it is a line of ROWS of such a
-- kind
abbrev pub row_given : List TextLine → TextLine → Option (List ℕ)
row_given before line = if is_within is_rows (section_of before) line
    && is_constraint (row_kind_named (field 0 line)) then Some (field 1 line) else None

-- the name that it gives to a column, if it is a line of COLUMNS and no marker
abbrev pub column_given : List TextLine → TextLine → Option (List ℕ)
column_given before line = if is_within is_columns (section_of before) line && not (is_marker line)
    then Some (field 0 line) else None

-- the line at place n gives a name, and no line before it does
pub record IsFirstOf (gives : List TextLine → TextLine → Option (List ℕ)) (lines : List TextLine)
    (name : List ℕ) (n : ℕ) : Type 0 where
  pub there : n < length lines
  pub given : gives (take n lines) (slice_index_or lines n no_line) ≡ Some name
  pub fresh : (m : ℕ) → m < n → gives (take m lines) (slice_index_or lines m no_line) ≢ Some name

-- names are distinct, each has a line that is the first to give it, these lines stand in the order
-- of the names, and each name that a line gives is there
pub record AreInOrder (gives : List TextLine → TextLine → Option (List ℕ)) (lines : List TextLine)
    (names : List (List ℕ)) : Type 0 where
  pub distinct : AreDistinct names
  pub place : ℕ → ℕ
  pub first : (j : ℕ) → j < length names
      → IsFirstOf gives lines (slice_index_or names j []) (place j)
  pub rising : (j k : ℕ) → j < k → k < length names → place j < place k
  pub whole : (n : ℕ) (name : List ℕ) → n < length lines
      → gives (take n lines) (slice_index_or lines n no_line) ≡ Some name → Contains names name
