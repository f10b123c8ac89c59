-- The facts that the type `Periods` keeps, over its plain fields.
use Rattle.std.specs.Prelude.{◌≡◌, ℕ, ◌+◌, ◌<◌, ◌≤◌, List, length, slice_index}
use Rattle.std.specs.List.{All}
use Rattle.smps_words.specs.CoreFacts.{max_rows, max_columns}

-- the greatest and the least number of periods
abbrev pub max_periods : ℕ
max_periods = 8

abbrev pub min_periods : ℕ
min_periods = 2

-- the facts of the periods
pub record PeriodFacts (names : List (List ℕ)) (columns rows : List ℕ) : Type 0 where
  pub some : min_periods ≤ length names
  pub few : length names ≤ max_periods
  -- each period has a first column and a first constraint row
  pub with_columns : length columns ≡ length names
  pub with_rows : length rows ≡ length names
  -- the first period begins with the first column and row, and the others later and later
  pub first_column : slice_index columns 0 ≡ 0
  pub first_row : slice_index rows 0 ≡ 0
  pub columns_rise : (k : ℕ) → k + 1 < length columns
      → slice_index columns k < slice_index columns (k + 1)
  -- the second period may begin with the first constraint row too, where the first one named the
  -- objective
  pub rows_rise : (k : ℕ) → 1 ≤ k → k + 1 < length rows
      → slice_index rows k < slice_index rows (k + 1)
  -- the numbers are those of a core
  pub small_columns : All (λ c. c < max_columns) columns
  pub small_rows : All (λ r. r < max_rows) rows
