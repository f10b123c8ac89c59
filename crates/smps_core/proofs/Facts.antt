-- The facts of a core, out of those of the reader's state.
use Rattle.std.proofs.Common.{◌≡◌, refl, sym, subst, ◌∙◌, ℕ, ◌+◌, ◌-◌, ◌≤◌, ◌<◌, ◌^◌, ◌==◌, Bool, true, false, List, [], ◌∷◌, length, get_or, inl, inr, arith, lit≤}
use Rattle.std.specs.Prelude.{◌&&◌, if◌then◌else◌, Option, Some, None, unwrap_or, ℤ, pos}
use Rattle.std.specs.List.{All, filter}
use Rattle.std.proofs.lemmas.Bool.{cases_eq}
use Rattle.std.proofs.lemmas.Grind.{common_steps}
use Rattle.std.proofs.lemmas.List.Elements.{All-head, All-tail, All-map, All-filter, filter_passes}
use Rattle.std.proofs.lemmas.List.FromFn.{length-map-range_with_len}
use Rattle.std.proofs.lemmas.List.Sorted.{All-permutation}
use Rattle.base_words.proofs.Magnitudes.{abs_opposite}
use Rattle.base_words.specs.Signs.{limit_size}
use Rattle.dec_core.specs.declared.decimal.Decimal.{Decimal}
use Rattle.smps_words.specs.CoreFacts.{CoreFacts, IsShort, is_empty_box, max_columns, max_end, max_rows, zero_decimal}
use Rattle.smps_words.specs.Outcomes.{latest}
use Rattle.smps_words.specs.declared.core_data.CoreRow.{CoreRow}
use Rattle.smps_words.specs.declared.core_data.CoreColumn.{CoreColumn}
use Rattle.smps_words.specs.declared.core_data.CoreEntry.{CoreEntry}
use Rattle.core_lines.proofs.AnyBelow.{any_at}
use Rattle.core_lines.specs.Boxes.{any_below, end_said, lower_of, speaks, upper_of}
use Rattle.core_lines.specs.ColumnLines.{is_cell_of}
use Rattle.core_lines.specs.PartFacts.{BoundFacts, ColumnFacts, SideFacts}
use Rattle.core_lines.specs.Parts.{Before}
use Rattle.core_lines.specs.declared.cells.Bound.{Bound}
use Rattle.core_lines.specs.declared.cells.Cell.{Cell}
use Rattle.core_lines.specs.declared.cells.RowValue.{RowValue}
use Rattle.smps_core.proofs.ByNumber.{all_by_number}
use Rattle.smps_core.specs.CoreData.{AreEntriesOf, column_of, columns_of, constant_of, cost_of, entries_of, entry_of, is_entry, minus, row_of, rows_of, side_said}
use Rattle.smps_core.specs.CoreMeaning.{FitsTogether}

-- what the last of the items says is what an item says, or the other value
latest_has : {X V : Type 0} (P : V → Type 0) (passes : X → Bool) (says : X → V) (other : V) (items : List X) → P other → All (λ x. P (says x)) items → P (latest passes says other items)
latest_has P passes says other [] base all = base
latest_has P passes says other (x ∷ items) base all = latest_has P passes says (if passes x then says x else other) items (chosen (passes x)) (All-tail (λ y. P (says y)) x items all)
  where
    chosen : (t : Bool) → P (if t then says x else other)
    chosen true = All-head (λ y. P (says y)) x items all
    chosen false = base

zero_short : IsShort zero_decimal
zero_short = (lit≤ tt, lit≤ tt)

pub side_short : (values : List RowValue) → All (λ (v : RowValue). IsShort v.value) values → (place : ℕ) → IsShort (unwrap_or (side_said values place) zero_decimal)
side_short values shorts place = latest_has (λ (o : Option Decimal). IsShort (unwrap_or o zero_decimal)) (λ (v : RowValue). v.row == place) (λ (v : RowValue). Some v.value) None values zero_short shorts

cost_short : (cells : List Cell) → All (λ (c : Cell). IsShort c.value) cells → (j : ℕ) → IsShort (unwrap_or (cost_of cells j) zero_decimal)
cost_short cells shorts j = latest_has (λ (o : Option Decimal). IsShort (unwrap_or o zero_decimal)) (is_cell_of 0 j) (λ (c : Cell). Some c.value) None cells zero_short shorts

lower_small : (bounds : List Bound) → All (λ (b : Bound). limit_size (end_said b.lower) ≤ max_end) bounds → (j : ℕ) → limit_size (lower_of bounds j) ≤ max_end
lower_small bounds small j = latest_has (λ (o : Option ℤ). limit_size o ≤ max_end) (λ (b : Bound). speaks b.lower && (b.column == j)) (λ (b : Bound). end_said b.lower) (Some (pos 0)) bounds (lit≤ tt) small

upper_small : (bounds : List Bound) → All (λ (b : Bound). limit_size (end_said b.upper) ≤ max_end) bounds → (j : ℕ) → limit_size (upper_of bounds j) ≤ max_end
upper_small bounds small j = latest_has (λ (o : Option ℤ). limit_size o ≤ max_end) (λ (b : Bound). speaks b.upper && (b.column == j)) (λ (b : Bound). end_said b.upper) None bounds (lit≤ tt) small

none_passes : (n : ℕ) (p : ℕ → Bool) (j : ℕ) → any_below n p ≡ false → j < n → p j ≡ false
none_passes n p j none lt = by (p j) refl
  where
    by : (t : Bool) → p j ≡ t → p j ≡ false
    by false is = is
    by true is = is ∙ (sym (any_at n p j lt is) ∙ none)

-- the entry of a row that is there
entry_low : (c : Cell) (m : ℕ) → is_entry c ≡ true → c.row ≤ m → c.row - 1 < m
entry_low c m passes le = elim (cases_eq c.row 0) as (λ _. c.row - 1 < m) [ inl e ↦ grind (arith, common_steps) | inr ne ↦ omega (arith, le, ne) ]

entries_placed : (cells : List Cell) (m n : ℕ) → All (λ (c : Cell). c.row ≤ m) cells → All (λ (c : Cell). c.column < n) cells → All (λ (e : CoreEntry). (e.row < m) × (e.column < n)) (entries_of cells)
entries_placed cells m n rows columns = All-map (λ (e : CoreEntry). (e.row < m) × (e.column < n)) entry_of (filter is_entry cells) (λ k d lt. (
  entry_low (get_or (filter is_entry cells) k d) m (filter_passes is_entry cells k d lt) (All-filter is_entry (λ (c : Cell). c.row ≤ m) cells rows k d lt),
  All-filter is_entry (λ (c : Cell). c.column < n) cells columns k d lt,
))

minus_short : (d : Decimal) → IsShort d → IsShort (minus d)
minus_short d short = (short.0, subst (λ (n : ℕ). n ≤ 10 ^ 36) (sym (abs_opposite d.mantissa)) short.1)

placed_by : (b : Before) (entries : List CoreEntry) → AreEntriesOf b.columns.cells entries → All (λ (c : Cell). c.row ≤ length b.rows.names) b.columns.cells → All (λ (c : Cell). c.column < length b.columns.names) b.columns.cells → All (λ (e : CoreEntry). (e.row < length (rows_of b)) × (e.column < length (columns_of b))) entries
placed_by b entries ordered rows columns =
    let m : ℕ = length b.rows.names in
    let n : ℕ = length b.columns.names in
    subst (λ (k : ℕ). All (λ (e : CoreEntry). (e.row < k) × (e.column < length (columns_of b))) entries) (sym (length-map-range_with_len (row_of b) 0 m))
    (subst (λ (k : ℕ). All (λ (e : CoreEntry). (e.row < m) × (e.column < k)) entries) (sym (length-map-range_with_len (column_of b) 0 n))
    (All-permutation (λ (e : CoreEntry). (e.row < m) × (e.column < n)) (entries_of b.columns.cells) entries ordered.0 (entries_placed b.columns.cells m n rows columns)))

-- the facts for the data that the lines say
made_facts : (b : Before) (marks : List ℕ) (right_flags range_flags bound_flags : List Bool) (entries : List CoreEntry) → length b.rows.names ≤ max_rows → ColumnFacts b.columns.names b.columns.cells marks → SideFacts b.rights.values right_flags → SideFacts b.ranges.values range_flags → BoundFacts b.bounds.bounds bound_flags → FitsTogether b → AreEntriesOf b.columns.cells entries → CoreFacts (rows_of b) (columns_of b) entries (constant_of b) b.rows.names b.columns.names
made_facts b marks right_flags range_flags bound_flags entries few columns rights ranges bounds fits ordered =
    let m : ℕ = length b.rows.names in
    let n : ℕ = length b.columns.names in
    let rows_counted : length (rows_of b) ≡ m = length-map-range_with_len (row_of b) 0 m in
    let columns_counted : length (columns_of b) ≡ n = length-map-range_with_len (column_of b) 0 n in
    record {
      few_rows = subst (λ (k : ℕ). k ≤ max_rows) (sym rows_counted) few;
      few_columns = subst (λ (k : ℕ). k ≤ max_columns) (sym columns_counted) columns.few;
      named_rows = sym rows_counted;
      named_columns = sym columns_counted;
      places = placed_by b entries ordered fits.placed columns.columns;
      ascending = ordered.1;
      rights = all_by_number (λ (r : CoreRow). IsShort r.right) (row_of b) m (λ i lt. side_short b.rights.values rights.shorts (i + 1));
      ranges = all_by_number (λ (r : CoreRow). IsShort (unwrap_or r.range zero_decimal)) (row_of b) m (λ i lt. side_short b.ranges.values ranges.shorts (i + 1));
      costs = all_by_number (λ (c : CoreColumn). IsShort c.cost) (column_of b) n (λ j lt. cost_short b.columns.cells columns.values j);
      values = All-permutation (λ (e : CoreEntry). IsShort e.value) (entries_of b.columns.cells) entries ordered.0 (All-map (λ (e : CoreEntry). IsShort e.value) entry_of (filter is_entry b.columns.cells) (All-filter is_entry (λ (c : Cell). IsShort c.value) b.columns.cells columns.values));
      constant_short = minus_short (unwrap_or (side_said b.rights.values 0) zero_decimal) (side_short b.rights.values rights.shorts 0);
      lowers = all_by_number (λ (c : CoreColumn). limit_size c.lower ≤ max_end) (column_of b) n (λ j lt. lower_small b.bounds.bounds bounds.lowers j);
      uppers = all_by_number (λ (c : CoreColumn). limit_size c.upper ≤ max_end) (column_of b) n (λ j lt. upper_small b.bounds.bounds bounds.uppers j);
      filled = all_by_number (λ (c : CoreColumn). is_empty_box c.lower c.upper ≡ false) (column_of b) n (λ j lt. none_passes n (λ j. is_empty_box (lower_of b.bounds.bounds j) (upper_of b.bounds.bounds j)) j fits.filled lt);
    }

-- the same for data that are known to be those
pub core_facts : (b : Before) (marks : List ℕ) (right_flags range_flags bound_flags : List Bool) (rows : List CoreRow) (columns : List CoreColumn) (entries : List CoreEntry) (constant : Decimal) (row_names column_names : List (List ℕ)) → length b.rows.names ≤ max_rows → ColumnFacts b.columns.names b.columns.cells marks → SideFacts b.rights.values right_flags → SideFacts b.ranges.values range_flags → BoundFacts b.bounds.bounds bound_flags → FitsTogether b → rows ≡ rows_of b → columns ≡ columns_of b → AreEntriesOf b.columns.cells entries → constant ≡ constant_of b → row_names ≡ b.rows.names → column_names ≡ b.columns.names → CoreFacts rows columns entries constant row_names column_names
core_facts b marks right_flags range_flags bound_flags rows columns entries constant row_names column_names few column_facts rights ranges bounds fits rows_are columns_are ordered constant_is row_names_are column_names_are =
    subst (λ (r : List CoreRow). CoreFacts r columns entries constant row_names column_names) (sym rows_are)
    (subst (λ (c : List CoreColumn). CoreFacts (rows_of b) c entries constant row_names column_names) (sym columns_are)
    (subst (λ (d : Decimal). CoreFacts (rows_of b) (columns_of b) entries d row_names column_names) (sym constant_is)
    (subst (λ (r : List (List ℕ)). CoreFacts (rows_of b) (columns_of b) entries (constant_of b) r column_names) (sym row_names_are)
    (subst (λ (c : List (List ℕ)). CoreFacts (rows_of b) (columns_of b) entries (constant_of b) b.rows.names c) (sym column_names_are)
    (made_facts b marks right_flags range_flags bound_flags entries few column_facts rights ranges bounds fits ordered)))))

-- the pairs' rows are few
pub placed_few : (b : Before) → length b.rows.names ≤ max_rows → FitsTogether b → All (λ (c : Cell). c.row ≤ max_rows) b.columns.cells
placed_few b few fits = λ k d lt. let low = fits.placed k d lt in omega (arith, few, low)
