-- Rows and columns made of lists by number.
use Rattle.std.specs.Prelude.{ℕ, ◌+◌, Bool, false, List, Option, None, unwrap_or, slice_index_or, ℤ}
use Rattle.dec_core.specs.declared.decimal.Decimal.{Decimal}
use Rattle.smps_words.specs.CoreFacts.{zero_decimal}
use Rattle.smps_words.specs.declared.core_data.CoreRow.{CoreRow}
use Rattle.smps_words.specs.declared.core_data.CoreColumn.{CoreColumn}
use Rattle.smps_words.specs.declared.core_data.RowKind.{RowKind}
use Rattle.smps_words.specs.declared.core_data.RowKind.TheVariants.{Less}

-- the constraint row of number i by the kinds, and by the right sides and ranges with the
-- objective's first
abbrev pub row_with : List RowKind → List (Option Decimal) → List (Option Decimal) → ℕ → CoreRow
row_with kinds rights ranges i = record {
  kind = slice_index_or kinds i Less;
  right = unwrap_or (slice_index_or rights (i + 1) None) zero_decimal;
  range = slice_index_or ranges (i + 1) None;
}

-- the column of number j by the ends, the flags and the costs
abbrev pub column_with : List (Option ℤ) → List (Option ℤ) → List Bool → List (Option Decimal) → ℕ
    → CoreColumn
column_with lowers uppers flags costs j = record {
  lower = slice_index_or lowers j None;
  upper = slice_index_or uppers j None;
  marked = slice_index_or flags j false;
  cost = unwrap_or (slice_index_or costs j None) zero_decimal;
}
