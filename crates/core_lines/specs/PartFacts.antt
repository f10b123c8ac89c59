-- The facts that the parts of the reader's state keep, over their plain fields.
use Rattle.std.specs.Prelude.{◌≡◌, ℕ, ◌+◌, ◌≤◌, ◌<◌, ◌==◌, Bool, false, List, length, slice_index, slice_index_or}
use Rattle.std.specs.List.{All, AllPairs, list_any}
use Rattle.base_words.specs.Signs.{limit_size}
use Rattle.smps_words.specs.CoreFacts.{IsShort, max_columns, max_end}
use Rattle.core_lines.specs.BoundLines.{is_lowered}
use Rattle.core_lines.specs.Boxes.{end_said}
use Rattle.core_lines.specs.ColumnLines.{is_cell_of}
use Rattle.core_lines.specs.declared.cells.Bound.{Bound}
use Rattle.core_lines.specs.declared.cells.Cell.{Cell}
use Rattle.core_lines.specs.declared.cells.RowValue.{RowValue}

-- of each row, one more than the last column that has a cell there: it tells of the last column and
-- of those to come whether they have one
pub record ColumnFacts (names : List (List ℕ)) (cells : List Cell) (marks : List ℕ) : Type 0 where
  pub few : length names ≤ max_columns
  pub same : (place column : ℕ) → length names ≤ column + 1
      → list_any (is_cell_of place column) cells ≡ (slice_index marks place == column + 1)
  pub small : (place : ℕ) → slice_index marks place ≤ length names
  pub columns : All (λ (c : Cell). c.column < length names) cells
  pub values : All (λ (c : Cell). IsShort c.value) cells
  -- no two cells are of one place
  pub apart : AllPairs (λ (c d : Cell). is_cell_of d.row d.column c ≡ false) cells

-- whether each row has a value already
pub record SideFacts (values : List RowValue) (flags : List Bool) : Type 0 where
  pub same : (place : ℕ) → list_any (λ (v : RowValue). v.row == place) values
      ≡ slice_index_or flags place false
  pub shorts : All (λ (v : RowValue). IsShort v.value) values

-- whether a line spoke of each column's lower end already
pub record BoundFacts (bounds : List Bound) (flags : List Bool) : Type 0 where
  pub same : (column : ℕ) → is_lowered bounds column ≡ slice_index_or flags column false
  pub lowers : All (λ (b : Bound). limit_size (end_said b.lower) ≤ max_end) bounds
  pub uppers : All (λ (b : Bound). limit_size (end_said b.upper) ≤ max_end) bounds
