-- What lists of lines tell is what one of the lines tells, behind those before it; so with the pairs of COLUMNS, and the entries made of them.
use Rattle.std.proofs.Common.{◌≡◌, refl, sym, subst, ap, ◌∙◌, ℕ, suc, zero, ◌+◌, ◌-◌, ◌<◌, Bool, true, false, List, [], ◌∷◌, ◌++◌, length, map, take, get_or, inl, inr, arith}
use Rattle.std.specs.Prelude.{◌⊎◌, ◌&&◌, cond, not, if◌then◌else◌, Option, Some, None}
use Rattle.std.specs.List.{Contains, filter}
use Rattle.std.proofs.lemmas.Bool.{cases_eq}
use Rattle.std.proofs.lemmas.Grind.{common_steps}
use Rattle.std.proofs.lemmas.List.{get_or-map, length-map}
use Rattle.std.proofs.lemmas.List.Elements.{All-contains_itself, All-filter, Contains-append_left, Contains-append_right, Contains-append_cases, filter_passes}
use Rattle.std.proofs.lemmas.List.Sorted.{Contains-permutation, IsPermutation-sym}
use Rattle.base_words.proofs.FirstAnswers.{same_some}
use Rattle.base_words.proofs.Positions.{none_in}
use Rattle.smps_words.proofs.ToldAt.{Told, at_told, told_at}
use Rattle.dec_core.specs.declared.decimal.Decimal.{Decimal}
use Rattle.smps_words.specs.CoreFacts.{zero_decimal}
use Rattle.line_core.specs.Names.{number_of}
use Rattle.smps_words.specs.NumberFields.{number_in}
use Rattle.smps_words.specs.Outcomes.Outcome.{Ended}
use Rattle.smps_words.specs.TextLines.{TextLine, field, no_line}
use Rattle.smps_words.specs.declared.core_data.CoreEntry.{CoreEntry}
use Rattle.core_lines.specs.ColumnLines.{cell_for, cell_in, cells_in, column_number, has_second, is_marker}
use Rattle.core_lines.specs.Headers.{is_columns}
use Rattle.core_lines.specs.Lines.{cells_of, column_names_of, is_within, rows_of, section_of}
use Rattle.core_lines.specs.Meaning.{outcome_of}
use Rattle.core_lines.specs.Parts.{RowsSaid}
use Rattle.core_lines.specs.RowLines.{row_place}
use Rattle.core_lines.specs.declared.cells.Cell.{Cell}
use Rattle.smps_core.proofs.GivenNames.{AreClean, accepted_clean}
use Rattle.smps_core.proofs.RowsStay.{rows_stay}
use Rattle.smps_core.proofs.WholeNames.{number_in_all}
use Rattle.smps_core.specs.CoreData.{AreEntriesOf, entries_of, entry_of, is_entry}
use Rattle.smps_core.specs.Laws.{BothWays, HasPair, HasPairAt, IsColumnsLine, IsSaid, IsSaidByAll, SaysCell, cell_at}

-- the pair of a row that isn't ignored
abbrev AreParts : Option ℕ → ℕ → Decimal → ℕ → Cell → Type 0
AreParts place column value number c = (place ≡ Some c.row) × (column ≡ c.column) × (value ≡ c.value) × (number ≡ c.line)

parts_of : (place : Option ℕ) (column : ℕ) (value : Decimal) (number : ℕ) (c : Cell) → Contains (cell_for place column value number) c → AreParts place column value number c
parts_of None column value number c there = absurd (none_in c there)
parts_of (Some place) column value number c (zero, lt, is) = (ap (λ (d : Cell). Some d.row) is, ap (λ (d : Cell). d.column) is, ap (λ (d : Cell). d.value) is, ap (λ (d : Cell). d.line) is)
parts_of (Some place) column value number c (suc k, lt, is) = absurd (omega (arith, lt))

of_parts : (place : Option ℕ) (column : ℕ) (value : Decimal) (number : ℕ) (c : Cell) → AreParts place column value number c → Contains (cell_for place column value number) c
of_parts place column value number c (row, col, val, num) =
    let same : record { row = c.row; column = column; value = value; line = number } ≡ c = λ i. record { row = c.row; column = col i; value = val i; line = num i } in
    subst (λ (p : Option ℕ). Contains (cell_for p column value number) c) (sym row) (0, omega arith, same)

-- the pair at field k of a line, by the rows and columns of the lines before it
abbrev TellsPairAt : List TextLine → TextLine → ℕ → Cell → Type 0
TellsPairAt before line k c = AreParts (row_place (rows_of before) (field k line)) (column_number (column_names_of before) (field 0 line)) (number_in (field (k + 1) line)) line.number c

abbrev TellsPair : List TextLine → TextLine → Cell → Type 0
TellsPair before line c = TellsPairAt before line 1 c ⊎ ((has_second line ≡ true) × TellsPairAt before line 3 c)

abbrev TellsCell : List TextLine → TextLine → Cell → Type 0
TellsCell before line c = IsColumnsLine before line × TellsPair before line c

-- what a line of COLUMNS tells, by the tests on it
said_by_line : (before : List TextLine) (line : TextLine) (c : Cell) (w m s : Bool) → is_within is_columns (section_of before) line ≡ w → is_marker line ≡ m → has_second line ≡ s → Contains (if w then (if m then [] else (cell_in (rows_of before) (column_names_of before) 1 line ++ (if s then cell_in (rows_of before) (column_names_of before) 3 line else []))) else []) c → TellsCell before line c
said_by_line before line c false m s within marker second there = absurd (none_in c there)
said_by_line before line c true true s within marker second there = absurd (none_in c there)
said_by_line before line c true false s within marker second there = ((within, marker), by s second (Contains-append_cases (cell_in (rows_of before) (column_names_of before) 1 line) (if s then cell_in (rows_of before) (column_names_of before) 3 line else []) c there))
  where
    by : (t : Bool) → has_second line ≡ t → Contains (cell_in (rows_of before) (column_names_of before) 1 line) c ⊎ Contains (if t then cell_in (rows_of before) (column_names_of before) 3 line else []) c → TellsPair before line c
    by t is (inl here) = inl (parts_of _ _ _ _ c here)
    by true is (inr there) = inr (is, parts_of _ _ _ _ c there)
    by false is (inr there) = absurd (none_in c there)

line_says : (before : List TextLine) (line : TextLine) (c : Cell) → TellsCell before line c → Contains (if is_within is_columns (section_of before) line then cells_in (rows_of before) (column_names_of before) line else []) c
line_says before line c ((within, marker), pair) =
    let first : List Cell = cell_in (rows_of before) (column_names_of before) 1 line in
    let second : List Cell = cell_in (rows_of before) (column_names_of before) 3 line in
    subst (λ (w : Bool). Contains (if w then cells_in (rows_of before) (column_names_of before) line else []) c) (sym within)
    (subst (λ (m : Bool). Contains (if m then [] else (first ++ (if has_second line then second else []))) c) (sym marker) (by pair))
  where
    by : TellsPair before line c → Contains (cell_in (rows_of before) (column_names_of before) 1 line ++ (if has_second line then cell_in (rows_of before) (column_names_of before) 3 line else [])) c
    by (inl parts) = Contains-append_left (cell_in (rows_of before) (column_names_of before) 1 line) (if has_second line then cell_in (rows_of before) (column_names_of before) 3 line else []) c (of_parts _ _ _ _ c parts)
    by (inr (has, parts)) = Contains-append_right (cell_in (rows_of before) (column_names_of before) 1 line) (if has_second line then cell_in (rows_of before) (column_names_of before) 3 line else []) c (subst (λ (t : Bool). Contains (if t then cell_in (rows_of before) (column_names_of before) 3 line else []) c) (sym has) (of_parts _ _ _ _ c parts))

abbrev tells : List TextLine → TextLine → List Cell
tells before line = if is_within is_columns (section_of before) line then cells_in (rows_of before) (column_names_of before) line else []

-- the column by the names of all lines, in place of the number that the line gives it
pair_in_all : (before : List TextLine) (names : List (List ℕ)) (line : TextLine) (k : ℕ) (c : Cell) → number_of (field 0 line) names ≡ Some (column_number (column_names_of before) (field 0 line)) → BothWays (TellsPairAt before line k c) (HasPairAt (rows_of before) names line k c)
pair_in_all before names line k c number = (
  λ (row, column, value, at). (row, number ∙ ap Some column, value, at),
  λ (row, column, value, at). (row, same_some (sym number ∙ column), value, at),
)

to_pair : (before : List TextLine) (names : List (List ℕ)) (line : TextLine) (c : Cell) → number_of (field 0 line) names ≡ Some (column_number (column_names_of before) (field 0 line)) → TellsPair before line c → HasPair (rows_of before) names line c
to_pair before names line c number (inl first) = inl ((pair_in_all before names line 1 c number).0 first)
to_pair before names line c number (inr (has, second)) = inr (has, (pair_in_all before names line 3 c number).0 second)

to_parts : (before : List TextLine) (names : List (List ℕ)) (line : TextLine) (c : Cell) → number_of (field 0 line) names ≡ Some (column_number (column_names_of before) (field 0 line)) → HasPair (rows_of before) names line c → TellsPair before line c
to_parts before names line c number (inl first) = inl ((pair_in_all before names line 1 c number).1 first)
to_parts before names line c number (inr (has, second)) = inr (has, (pair_in_all before names line 3 c number).1 second)

says_told : (lines : List TextLine) (c : Cell) (n : ℕ) → n < length lines → TellsCell (take n lines) (get_or lines n no_line) c → SaysCell (rows_of (take n lines)) lines c n
says_told lines c n lt (columns, parts) = (lt, columns, to_pair (take n lines) (column_names_of lines) (get_or lines n no_line) c (number_in_all lines n lt columns) parts)

told_said : (lines : List TextLine) (c : Cell) (n : ℕ) → SaysCell (rows_of (take n lines)) lines c n → TellsCell (take n lines) (get_or lines n no_line) c
told_said lines c n (lt, columns, pair) = (columns, to_parts (take n lines) (column_names_of lines) (get_or lines n no_line) c (number_in_all lines n lt columns) pair)

is_said : (lines : List TextLine) (c : Cell) → Told tells no_line c [] lines → IsSaid lines c
is_said lines c (n, lt, found) = (n, says_told lines c n lt (said_by_line (take n lines) (get_or lines n no_line) c _ _ _ refl refl refl found))

is_told : (lines : List TextLine) (c : Cell) → IsSaid lines c → Contains (cells_of lines) c
is_told lines c (n, says) = at_told tells no_line c [] lines n says.0 (line_says (take n lines) (get_or lines n no_line) c (told_said lines c n says))

pub said_both : (lines : List TextLine) (c : Cell) → BothWays (Contains (cells_of lines) c) (IsSaid lines c)
said_both lines c = (λ there. is_said lines c (told_at tells no_line c [] lines there), is_told lines c)

-- a line of COLUMNS stands in that section
in_columns : (header columns : Bool) → (not header && columns) ≡ true → columns ≡ true
in_columns true columns is = absurd cc
in_columns false columns is = is

rows_same : (lines : List TextLine) (n : ℕ) → AreClean lines → IsColumnsLine (take n lines) (get_or lines n no_line) → rows_of lines ≡ rows_of (take n lines)
rows_same lines n clean columns = rows_stay lines n clean (in_columns (get_or lines n no_line).header (is_columns (section_of (take n lines))) columns.0)

to_all : (lines : List TextLine) (c : Cell) → AreClean lines → IsSaid lines c → IsSaidByAll lines c
to_all lines c clean (n, (lt, columns, pair)) = (n, (lt, columns, subst (λ (rows : RowsSaid). HasPair rows (column_names_of lines) (get_or lines n no_line) c) (sym (rows_same lines n clean columns)) pair))

of_all : (lines : List TextLine) (c : Cell) → AreClean lines → IsSaidByAll lines c → IsSaid lines c
of_all lines c clean (n, (lt, columns, pair)) = (n, (lt, columns, subst (λ (rows : RowsSaid). HasPair rows (column_names_of lines) (get_or lines n no_line) c) (rows_same lines n clean columns) pair))

-- the same in an accepted file by its rows as they are at its end
pub said_by_all : (lines before : List TextLine) → outcome_of lines ≡ Ended before → (c : Cell) → BothWays (Contains (cells_of before) c) (IsSaidByAll before c)
said_by_all lines before is c =
    let clean = accepted_clean lines before is in
    (λ there. to_all before c clean ((said_both before c).0 there), λ said. (said_both before c).1 (of_all before c clean said))

-- the items that pass
kept_item : {X : Type 0} (p : X → Bool) (y : X) (ys : List X) (x : X) (t : Bool) → Contains (filter p ys) x → Contains (cond t (y ∷ filter p ys) (filter p ys)) x
kept_item p y ys x true there = Contains-append_right (y ∷ []) (filter p ys) x there
kept_item p y ys x false there = there

kept_in : {X : Type 0} (p : X → Bool) (xs : List X) (x : X) (k : ℕ) → p x ≡ true → k < length xs → get_or xs k x ≡ x → Contains (filter p xs) x
kept_in p [] x k passes lt is = absurd (omega (arith, lt))
kept_in {X} p (y ∷ ys) x zero passes lt is = subst (λ (t : Bool). Contains (cond t (y ∷ filter p ys) (filter p ys)) x) (sym (ap p is ∙ passes)) (0, omega arith, is)
kept_in p (y ∷ ys) x (suc k) passes lt is = kept_item p y ys x (p y) (kept_in p ys x k passes (omega (arith, lt)) is)

pub no_cell : Cell
no_cell = record { row = 0; column = 0; value = zero_decimal; line = 0 }

back : (c : Cell) → is_entry c ≡ true → cell_at (entry_of c) ≡ c
back c passes =
    let row : c.row - 1 + 1 ≡ c.row = elim (cases_eq c.row 0) as (λ _. c.row - 1 + 1 ≡ c.row) [ inl e ↦ grind (arith, common_steps) | inr ne ↦ omega (arith, ne) ] in
    λ i. record { row = row i; column = c.column; value = c.value; line = c.line }

forth : (e : CoreEntry) → entry_of (cell_at e) ≡ e
forth e =
    let row : e.row + 1 - 1 ≡ e.row = omega arith in
    λ i. record { row = row i; column = e.column; value = e.value; line = e.line }

from_cell : (cells : List Cell) (e : CoreEntry) → Contains (entries_of cells) e → Contains cells (cell_at e)
from_cell cells e (k, lt, is) =
    let kept : List Cell = filter is_entry cells in
    let small : k < length kept = subst (λ (n : ℕ). k < n) (length-map kept entry_of) lt in
    let same : entry_of (get_or kept k no_cell) ≡ e = sym (get_or-map entry_of kept k no_cell e small) ∙ is in
    subst (λ (c : Cell). Contains cells c) (sym (back (get_or kept k no_cell) (filter_passes is_entry cells k no_cell small)) ∙ ap cell_at same)
    (All-filter is_entry (Contains cells) cells (All-contains_itself cells) k no_cell small)

mapped_in : (kept : List Cell) (c : Cell) → Contains kept c → Contains (map entry_of kept) (entry_of c)
mapped_in kept c (k, lt, is) = (k, subst (λ (n : ℕ). k < n) (sym (length-map kept entry_of)) lt, get_or-map entry_of kept k c (entry_of c) lt ∙ ap entry_of is)

to_entry : (cells : List Cell) (e : CoreEntry) → Contains cells (cell_at e) → Contains (entries_of cells) e
to_entry cells e (k, lt, is) =
    let passes : is_entry (cell_at e) ≡ true = grind (arith, common_steps) in
    subst (λ (f : CoreEntry). Contains (entries_of cells) f) (forth e) (mapped_in (filter is_entry cells) (cell_at e) (kept_in is_entry cells (cell_at e) k passes lt is))

pub entries_both : (cells : List Cell) (entries : List CoreEntry) → AreEntriesOf cells entries → (e : CoreEntry) → BothWays (Contains entries e) (Contains cells (cell_at e))
entries_both cells entries ordered e = (
  λ there. from_cell cells e (Contains-permutation entries (entries_of cells) e (IsPermutation-sym (entries_of cells) entries ordered.0) there),
  λ there. Contains-permutation (entries_of cells) entries e ordered.0 (to_entry cells e there),
)
