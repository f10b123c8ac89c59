-- The facts that the type `Core` keeps, over its plain fields.
use Rattle.std.specs.Prelude.{◌≡◌, ℕ, ◌+◌, ◌^◌, ◌<◌, ◌≤◌, Bool, false, List, length, slice_index_or, unwrap_or, Option, Some, None, ℤ, pos, unsigned_abs, int_lt}
use Rattle.std.specs.List.{All}
use Rattle.base_words.specs.Signs.{limit_size}
use Rattle.dec_core.specs.declared.decimal.Decimal.{Decimal}
use Rattle.smps_words.specs.declared.core_data.CoreRow.{CoreRow}
use Rattle.smps_words.specs.declared.core_data.CoreColumn.{CoreColumn}
use Rattle.smps_words.specs.declared.core_data.CoreEntry.{CoreEntry}

-- the greatest number of constraint rows, and of columns
abbrev pub max_rows : ℕ
max_rows = 5000

abbrev pub max_columns : ℕ
max_columns = 5000

-- the greatest magnitude of a box's end
abbrev pub max_end : ℕ
max_end = 10 ^ 9

-- a decimal as files hold it: at most nine places, and a mantissa of magnitude at most 10^36
abbrev pub IsShort : Decimal → Type 0
IsShort d = (d.places ≤ 9) × (unsigned_abs d.mantissa ≤ 10 ^ 36)

-- the number 0
abbrev pub zero_decimal : Decimal
zero_decimal = record { mantissa = pos 0; places = 0 }

-- whether no whole number lies between the ends of a box
abbrev pub is_empty_box : Option ℤ → Option ℤ → Bool
is_empty_box None upper = false
is_empty_box (Some low) None = false
is_empty_box (Some low) (Some high) = int_lt high low

-- what stands past the end of the entries
abbrev pub no_entry : CoreEntry
no_entry = record { row = 0; column = 0; value = zero_decimal; line = 0 }

-- the entry at a place
abbrev pub entry_at : List CoreEntry → ℕ → CoreEntry
entry_at entries k = slice_index_or entries k no_entry

-- ascending by column, and by row within a column
abbrev pub ComesBefore : CoreEntry → CoreEntry → Type 0
ComesBefore e f = (e.column ≤ f.column) × (e.column ≡ f.column → e.row < f.row)

-- the facts of a core
pub record CoreFacts (rows : List CoreRow) (columns : List CoreColumn) (entries : List CoreEntry)
    (constant : Decimal) (row_names column_names : List (List ℕ)) : Type 0 where
  -- there are few rows and columns, and each has a name
  pub few_rows : length rows ≤ max_rows
  pub few_columns : length columns ≤ max_columns
  pub named_rows : length row_names ≡ length rows
  pub named_columns : length column_names ≡ length columns
  -- each entry is that of a row and a column that are there, and each pair of them has at most one
  pub places : All (λ e. (e.row < length rows) × (e.column < length columns)) entries
  pub ascending : (k : ℕ) → k + 1 < length entries
      → ComesBefore (entry_at entries k) (entry_at entries (k + 1))
  -- each number is short
  pub rights : All (λ r. IsShort r.right) rows
  pub ranges : All (λ r. IsShort (unwrap_or r.range zero_decimal)) rows
  pub costs : All (λ c. IsShort c.cost) columns
  pub values : All (λ e. IsShort e.value) entries
  pub constant_short : IsShort constant
  -- each box has small ends, and isn't empty where both of them are there
  pub lowers : All (λ c. limit_size c.lower ≤ max_end) columns
  pub uppers : All (λ c. limit_size c.upper ≤ max_end) columns
  pub filled : All (λ c. is_empty_box c.lower c.upper ≡ false) columns
