-- The entries, sorted by one number, ascend by their places.
use Rattle.std.proofs.Common.{◌≡◌, refl, sym, subst, ap, ◌∙◌, ℕ, ◌+◌, ◌^◌, ◌≤◌, ◌<◌, ◌==◌, Bool, true, false, List, [], ◌∷◌, ◌++◌, length, map, take, get_or, inl, inr, arith}
use Rattle.std.specs.Prelude.{◌&&◌, cond, if◌then◌else◌}
use Rattle.std.specs.List.{All, IsDistinct, filter}
use Rattle.std.specs.List.Sorted.{IsNonDecreasingBy, IsPermutation}
use Rattle.std.proofs.lemmas.Bool.{cases_eq}
use Rattle.std.proofs.lemmas.Grind.{common_steps}
use Rattle.std.proofs.lemmas.List.{append-nil, get_or-map, length-map, map-append, take_more}
use Rattle.std.proofs.lemmas.List.Elements.{All-map, All-filter, filter-append, filter_passes}
use Rattle.std.proofs.lemmas.List.Kept.{AllPairs-filter}
use Rattle.std.proofs.lemmas.List.Sorted.{All-permutation}
use Rattle.std.proofs.lemmas.Map.Keys.{IsDistinct-from_apart, IsDistinct-IsPermutation, apart_from_distinct}
use Rattle.smps_words.specs.CoreFacts.{ComesBefore, entry_at, max_rows, no_entry}
use Rattle.smps_words.specs.declared.core_data.CoreEntry.{CoreEntry}
use Rattle.core_lines.specs.ColumnLines.{is_cell_of}
use Rattle.core_lines.specs.declared.cells.Cell.{Cell}
use Rattle.smps_core.specs.CoreData.{AreEntriesOf, entries_of, entry_of, is_entry}
use Rattle.smps_core.specs.Entries.{AreApart, place_number}
use Rattle.smps_core.proofs.Saying.{no_cell}

kept_more : (kept : List Cell) (cell : Cell) (t : Bool) → map entry_of kept ++ map entry_of (cond t (cell ∷ []) []) ≡ (if t then map entry_of kept ++ entry_of cell ∷ [] else map entry_of kept)
kept_more kept cell true = refl
kept_more kept cell false = append-nil (map entry_of kept)

one_more : (cells : List Cell) (cell : Cell) → entries_of (cells ++ cell ∷ []) ≡ (if is_entry cell then entries_of cells ++ entry_of cell ∷ [] else entries_of cells)
one_more cells cell =
    ap (λ (l : List Cell). map entry_of l) (filter-append is_entry cells (cell ∷ []))
    ∙ map-append entry_of (filter is_entry cells) (filter is_entry (cell ∷ []))
    ∙ kept_more (filter is_entry cells) cell (is_entry cell)

-- one more pair in the course of a loop
entry_more : (cells : List Cell) (i : ℕ) (cell : Cell) (entries new : List CoreEntry) → i < length cells → cell ≡ get_or cells i cell → entries ≡ entries_of (take i cells) → new ≡ (if is_entry cell then entries ++ entry_of cell ∷ [] else entries) → new ≡ entries_of (take (i + 1) cells)
entry_more cells i cell entries new lt at before is =
    is
    ∙ ap (λ (l : List CoreEntry). if is_entry cell then l ++ entry_of cell ∷ [] else l) before
    ∙ sym (one_more (take i cells) cell)
    ∙ ap (λ (c : Cell). entries_of (take i cells ++ c ∷ [])) at
    ∙ sym (ap entries_of (take_more cells i cell lt))

-- whether two entries are of one place
abbrev is_same_entry : CoreEntry → CoreEntry → Bool
is_same_entry e f = (e.row == f.row) && (e.column == f.column)

flips : (e f : CoreEntry) → is_same_entry e f ≡ is_same_entry f e
flips e f = elim (cases_eq e.row f.row) as (λ _. is_same_entry e f ≡ is_same_entry f e) [
  | inl same ↦ elim (cases_eq e.column f.column) as (λ _. is_same_entry e f ≡ is_same_entry f e) [ inl here ↦ grind (arith, common_steps) | inr there ↦ grind (arith, common_steps) ]
  | inr other ↦ grind (arith, common_steps)
]

apart_entries : (c d : Cell) → is_entry c ≡ true → is_entry d ≡ true → is_cell_of d.row d.column c ≡ false → is_same_entry (entry_of c) (entry_of d) ≡ false
apart_entries c d one other apart = elim (cases_eq c.row d.row) as (λ _. is_same_entry (entry_of c) (entry_of d) ≡ false) [
  | inl same ↦ grind (arith, common_steps)
  | inr differ ↦ grind (arith, common_steps)
]

apart_at : (cells : List Cell) → AreApart cells → (i j : ℕ) (d : CoreEntry) → i < j → j < length (filter is_entry cells) → is_same_entry (get_or (entries_of cells) i d) (get_or (entries_of cells) j d) ≡ false
apart_at cells apart i j d lt small =
    let kept : List Cell = filter is_entry cells in
    let first : i < length kept = omega (arith, lt, small) in
    ap (λ (e : CoreEntry). is_same_entry e (get_or (map entry_of kept) j d)) (get_or-map entry_of kept i no_cell d first)
    ∙ ap (λ (e : CoreEntry). is_same_entry (entry_of (get_or kept i no_cell)) e) (get_or-map entry_of kept j no_cell d small)
    ∙ apart_entries (get_or kept i no_cell) (get_or kept j no_cell) (filter_passes is_entry cells i no_cell first) (filter_passes is_entry cells j no_cell small) (AllPairs-filter (λ (c e : Cell). is_cell_of e.row e.column c ≡ false) is_entry cells apart i j no_cell lt small)

distinct : (cells : List Cell) → AreApart cells → IsDistinct is_same_entry (entries_of cells)
distinct cells apart = IsDistinct-from_apart is_same_entry (entries_of cells) (λ i j d lt in_range. apart_at cells apart i j d lt (subst (λ (n : ℕ). j < n) (length-map (filter is_entry cells) entry_of) in_range))

low_rows : (cells : List Cell) → All (λ (c : Cell). c.row ≤ max_rows) cells → All (λ (e : CoreEntry). e.row < 2 ^ 32) (entries_of cells)
low_rows cells placed = All-map (λ (e : CoreEntry). e.row < 2 ^ 32) entry_of (filter is_entry cells) (λ k d lt. let low : (get_or (filter is_entry cells) k d).row ≤ max_rows = All-filter is_entry (λ (c : Cell). c.row ≤ max_rows) cells placed k d lt in omega (arith, low))

rise_at : (x y : CoreEntry) → place_number x ≤ place_number y → x.row < 2 ^ 32 → y.row < 2 ^ 32 → is_same_entry x y ≡ false → ComesBefore x y
rise_at x y le low_x low_y apart = (
  omega (arith, le, low_x, low_y),
  λ same. elim (cases_eq x.row y.row) as (λ _. x.row < y.row) [ inl e ↦ grind (arith, common_steps) | inr ne ↦ omega (arith, le, same, ne) ],
)

-- the same entries by that number
pub sorted_entries : (cells : List Cell) (found entries : List CoreEntry) → found ≡ entries_of cells → AreApart cells → All (λ (c : Cell). c.row ≤ max_rows) cells → IsPermutation found entries → IsNonDecreasingBy place_number entries → AreEntriesOf cells entries
sorted_entries cells found entries is apart placed moves rise =
    let moved : IsPermutation (entries_of cells) entries = subst (λ (l : List CoreEntry). IsPermutation l entries) is moves in
    let low : All (λ (e : CoreEntry). e.row < 2 ^ 32) entries = All-permutation (λ (e : CoreEntry). e.row < 2 ^ 32) (entries_of cells) entries moved (low_rows cells placed) in
    let differ : IsDistinct is_same_entry entries = IsDistinct-IsPermutation is_same_entry flips (entries_of cells) entries moved (distinct cells apart) in
    (moved, λ k lt. rise_at (entry_at entries k) (entry_at entries (k + 1)) (rise k (k + 1) no_entry (omega arith) lt) (low k no_entry (omega (arith, lt))) (low (k + 1) no_entry lt) (apart_from_distinct is_same_entry entries k (k + 1) no_entry differ (omega arith) lt))
