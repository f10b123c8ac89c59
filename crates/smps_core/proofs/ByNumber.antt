-- Lists that have an item for each number below a count.
use Rattle.std.proofs.Common.{◌≡◌, sym, subst, ap, ◌∙◌, ℕ, ◌+◌, ◌<◌, List, length, map, get_or, arith}
use Rattle.std.specs.Prelude.{None, Option, ℤ, Bool, unwrap_or}
use Rattle.std.specs.List.{All, range_with_len}
use Rattle.std.proofs.lemmas.List.FromFn.{get_or-map-range_with_len, length-map-range_with_len}
use Rattle.base_words.proofs.Made.{same_made}
use Rattle.dec_core.specs.declared.decimal.Decimal.{Decimal}
use Rattle.smps_words.specs.CoreFacts.{zero_decimal}
use Rattle.core_lines.specs.Boxes.{lower_of, upper_of}
use Rattle.core_lines.specs.Parts.{Before}
use Rattle.smps_words.specs.declared.core_data.CoreRow.{CoreRow}
use Rattle.smps_words.specs.declared.core_data.CoreColumn.{CoreColumn}
use Rattle.smps_words.specs.declared.core_data.RowKind.{RowKind}
use Rattle.smps_core.specs.CoreData.{side_said, cost_of, rows_of, row_of, columns_of, column_of}
use Rattle.smps_core.specs.Rows.{row_with, column_with}

-- what holds at each number holds of each item
pub all_by_number : {X : Type 0} (P : X → Type 0) (f : ℕ → X) (n : ℕ) → ((i : ℕ) → i < n → P (f i)) → All P (map f (range_with_len 0 n))
all_by_number P f n holds = λ k d lt.
    let small : k < n = subst (λ (m : ℕ). k < m) (length-map-range_with_len f 0 n) lt in
    subst P (sym (get_or-map-range_with_len f 0 n k k d small (omega arith))) (holds k small)

row_by : (b : Before) (rights ranges : List (Option Decimal)) (i : ℕ) → get_or rights (i + 1) None ≡ side_said b.rights.values (i + 1) → get_or ranges (i + 1) None ≡ side_said b.ranges.values (i + 1) → row_with b.rows.kinds rights ranges i ≡ row_of b i
row_by b rights ranges i right range = λ k. record {
  kind = (row_of b i).kind;
  right = unwrap_or (right k) zero_decimal;
  range = range k;
}

-- the rows by the sides of each row
pub rows_are : (b : Before) (kinds : List RowKind) (rights ranges : List (Option Decimal)) (n : ℕ) (rows : List CoreRow) → n ≡ length b.rows.names → kinds ≡ b.rows.kinds → ((place : ℕ) → place < n + 1 → get_or rights place None ≡ side_said b.rights.values place) → ((place : ℕ) → place < n + 1 → get_or ranges place None ≡ side_said b.ranges.values place) → rows ≡ map (row_with kinds rights ranges) (range_with_len 0 n) → rows ≡ rows_of b
rows_are b kinds rights ranges n rows counted kinds_are right range is =
    is
    ∙ ap (λ (k : List RowKind). map (row_with k rights ranges) (range_with_len 0 n)) kinds_are
    ∙ same_made (row_with b.rows.kinds rights ranges) (row_of b) n (λ i lt. row_by b rights ranges i (right (i + 1) (omega (arith, lt))) (range (i + 1) (omega (arith, lt))))
    ∙ ap (λ (m : ℕ). map (row_of b) (range_with_len 0 m)) counted

column_by : (b : Before) (lowers uppers : List (Option ℤ)) (costs : List (Option Decimal)) (j : ℕ) → get_or lowers j None ≡ lower_of b.bounds.bounds j → get_or uppers j None ≡ upper_of b.bounds.bounds j → get_or costs j None ≡ cost_of b.columns.cells j → column_with lowers uppers b.columns.flags costs j ≡ column_of b j
column_by b lowers uppers costs j lower upper cost = λ k. record {
  lower = lower k;
  upper = upper k;
  marked = (column_of b j).marked;
  cost = unwrap_or (cost k) zero_decimal;
}

-- the columns by the ends and the cost of each column
pub columns_are : (b : Before) (lowers uppers : List (Option ℤ)) (flags : List Bool) (costs : List (Option Decimal)) (n : ℕ) (columns : List CoreColumn) → n ≡ length b.columns.names → flags ≡ b.columns.flags → length costs ≡ n → ((j : ℕ) → j < n → get_or lowers j None ≡ lower_of b.bounds.bounds j) → ((j : ℕ) → j < n → get_or uppers j None ≡ upper_of b.bounds.bounds j) → ((j : ℕ) → j < n → get_or costs j None ≡ cost_of b.columns.cells j) → columns ≡ map (column_with lowers uppers flags costs) (range_with_len 0 (length costs)) → columns ≡ columns_of b
columns_are b lowers uppers flags costs n columns counted flags_are costs_counted lower upper cost is =
    is
    ∙ ap (λ (f : List Bool). map (column_with lowers uppers f costs) (range_with_len 0 (length costs))) flags_are
    ∙ ap (λ (m : ℕ). map (column_with lowers uppers b.columns.flags costs) (range_with_len 0 m)) costs_counted
    ∙ same_made (column_with lowers uppers b.columns.flags costs) (column_of b) n (λ j lt. column_by b lowers uppers costs j (lower j lt) (upper j lt) (cost j lt))
    ∙ ap (λ (m : ℕ). map (column_of b) (range_with_len 0 m)) counted
