-- The data of a core, looked up in what the lines of its file say.
use Rattle.std.specs.Prelude.{◌≡◌, ℕ, ◌+◌, ◌-◌, ◌<◌, ◌==◌, Bool, false, not, List, [], ◌∷◌, length, map, Option, Some, None, unwrap_or, codes, slice_index_or, neg_ℤ}
use Rattle.std.specs.List.{filter, range_with_len}
use Rattle.std.specs.List.Sorted.{IsPermutation}
use Rattle.dec_core.specs.declared.decimal.Decimal.{Decimal}
use Rattle.smps_words.specs.CoreFacts.{ComesBefore, entry_at, zero_decimal}
use Rattle.smps_words.specs.Outcomes.{latest}
use Rattle.smps_words.specs.declared.core_data.CoreRow.{CoreRow}
use Rattle.smps_words.specs.declared.core_data.CoreColumn.{CoreColumn}
use Rattle.smps_words.specs.declared.core_data.CoreEntry.{CoreEntry}
use Rattle.smps_words.specs.declared.core_data.RowKind.TheVariants.{Less}
use Rattle.smps_words.specs.declared.core_file.Core.{Core}
use Rattle.core_lines.specs.Boxes.{lower_of, upper_of}
use Rattle.core_lines.specs.ColumnLines.{is_cell_of}
use Rattle.core_lines.specs.Parts.{Before}
use Rattle.core_lines.specs.declared.cells.Cell.{Cell}
use Rattle.core_lines.specs.declared.cells.RowValue.{RowValue}

-- the right side or range that the lines say of a row, counted with the objective as 0 and the
-- constraint rows from 1
abbrev pub side_said : List RowValue → ℕ → Option Decimal
side_said values place =
    latest (λ (v : RowValue). v.row == place) (λ (v : RowValue). Some v.value) None values

-- the cost that the lines say of a column
abbrev pub cost_of : List Cell → ℕ → Option Decimal
cost_of cells column = latest (is_cell_of 0 column) (λ (c : Cell). Some c.value) None cells

-- the constraint row of number i, from 0
abbrev pub row_of : Before → ℕ → CoreRow
row_of said i = record {
  kind = slice_index_or said.rows.kinds i Less;
  right = unwrap_or (side_said said.rights.values (i + 1)) zero_decimal;
  range = side_said said.ranges.values (i + 1);
}

-- the column of number j, from 0
abbrev pub column_of : Before → ℕ → CoreColumn
column_of said j = record {
  lower = lower_of said.bounds.bounds j;
  upper = upper_of said.bounds.bounds j;
  marked = slice_index_or said.columns.flags j false;
  cost = unwrap_or (cost_of said.columns.cells j) zero_decimal;
}

-- a constraint row and a column for each name
abbrev pub rows_of : Before → List CoreRow
rows_of said = map (row_of said) (range_with_len 0 (length said.rows.names))

abbrev pub columns_of : Before → List CoreColumn
columns_of said = map (column_of said) (range_with_len 0 (length said.columns.names))

-- whether a pair of a line is that of a constraint row, and the entry that it says
abbrev pub is_entry : Cell → Bool
is_entry c = not (c.row == 0)

abbrev pub entry_of : Cell → CoreEntry
entry_of c = record { row = c.row - 1; column = c.column; value = c.value; line = c.line }

-- the entries in the order of their lines
abbrev pub entries_of : List Cell → List CoreEntry
entries_of cells = map entry_of (filter is_entry cells)

-- ascending by column, and by row within a column
abbrev pub Ascend : List CoreEntry → Type 0
Ascend entries =
    (k : ℕ) → k + 1 < length entries → ComesBefore (entry_at entries k) (entry_at entries (k + 1))

-- the same entries in ascending order
abbrev pub AreEntriesOf : List Cell → List CoreEntry → Type 0
AreEntriesOf cells entries = IsPermutation (entries_of cells) entries × Ascend entries

-- a number with the other sign
abbrev pub minus : Decimal → Decimal
minus d = record { mantissa = neg_ℤ d.mantissa; places = d.places }

-- the right side of the objective, 0 where there is none
abbrev pub objective_side : Before → Decimal
objective_side said = unwrap_or (side_said said.rights.values 0) zero_decimal

-- the constant of the cost: minus the right side of the objective
abbrev pub constant_of : Before → Decimal
constant_of said = minus (objective_side said)

-- the name of the used set of right sides, or RHS where it has none
abbrev pub right_name_of : Option (List ℕ) → List ℕ
right_name_of None = codes "RHS"
right_name_of (Some []) = codes "RHS"
right_name_of (Some (byte ∷ rest)) = byte ∷ rest

-- the name of the first row of kind N
abbrev pub objective_of : Before → List ℕ
objective_of said = slice_index_or said.rows.frees 0 []

-- the data of a core are what the lines of its file say
pub record IsCoreOf (said : Before) (core : Core) : Type 0 where
  pub rows : core.rows ≡ rows_of said
  pub columns : core.columns ≡ columns_of said
  pub entries : AreEntriesOf said.columns.cells core.entries
  pub constant : core.constant ≡ constant_of said
  pub right_name : core.right_name ≡ right_name_of said.rights.set
  pub objective : core.objective ≡ objective_of said
  pub row_names : core.row_names ≡ said.rows.names
  pub column_names : core.column_names ≡ said.columns.names
