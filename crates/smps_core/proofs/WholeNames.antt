-- A column that a line names has the same number by the names of the whole file.
use Rattle.std.proofs.Common.{◌≡◌, refl, sym, subst, ap, ◌∙◌, ℕ, ◌+◌, ◌<◌, Bool, true, false, List, [], ◌∷◌, ◌++◌, length, fold, take, drop, get_or, length-append, arith}
use Rattle.std.specs.Prelude.{if◌then◌else◌, Option, Some, None, is_none, position, unwrap_or}
use Rattle.std.specs.Str.{bytes_eq}
use Rattle.std.proofs.lemmas.Bool.{false_from_ne_true}
use Rattle.std.proofs.lemmas.List.{get_or_append_left, get_or_at, length_push, take-append-drop, take_more}
use Rattle.std.proofs.lemmas.List.Quantifiers.{position-Some}
use Rattle.std.proofs.lemmas.Slice.Eq.{bytes_eq-Decides}
use Rattle.base_words.proofs.Positions.{place_at}
use Rattle.line_core.specs.Names.{number_of}
use Rattle.smps_words.specs.TextLines.{TextLine, field, no_line}
use Rattle.core_lines.proofs.NextLaw.{goes_on}
use Rattle.core_lines.specs.ColumnLines.{column_number, columns_next, grown, is_marker}
use Rattle.core_lines.specs.Headers.{is_columns}
use Rattle.core_lines.specs.Lines.{column_names_of, columns_of, is_within, rows_of, section_of}
use Rattle.core_lines.specs.Parts.{Before, ColumnsSaid, RowsSaid}
use Rattle.smps_core.proofs.Accepted.{by_lines}
use Rattle.smps_core.proofs.NameOrders.{other_names}
use Rattle.smps_core.specs.Laws.{IsColumnsLine}

-- a name keeps its number where others come behind it
number_kept : (name : List ℕ) (names more : List (List ℕ)) (i : ℕ) → number_of name names ≡ Some i → number_of name (names ++ more) ≡ Some i
number_kept name names more i is =
    let there = position-Some (bytes_eq name) names i [] is in
    let inside : i < length names = there.0 in
    let long = length-append names more in
    place_at (bytes_eq name) (names ++ more) i [] (omega (arith, inside, long)) (λ k lt. ap (bytes_eq name) (get_or_append_left names more [] k (omega (arith, lt, inside))) ∙ there.2 k lt) (ap (bytes_eq name) (get_or_append_left names more [] i inside) ∙ there.1)

-- a new name has the next number
number_last : (name : List ℕ) (names : List (List ℕ)) → number_of name names ≡ None → number_of name (names ++ name ∷ []) ≡ Some (length names)
number_last name names none =
    let long = length_push names name in
    let absent : (k : ℕ) → k < length names → bytes_eq name (get_or names k []) ≡ false = λ k lt. false_from_ne_true (bytes_eq name (get_or names k [])) (λ same. other_names name names none k [] lt (sym ((bytes_eq-Decides name (get_or names k [])).0 same))) in
    place_at (bytes_eq name) (names ++ name ∷ []) (length names) [] (omega (arith, long)) (λ k lt. ap (bytes_eq name) (get_or_append_left names (name ∷ []) [] k lt) ∙ absent k lt) (ap (bytes_eq name) (get_or_at names name [] [] (length names) refl) ∙ (bytes_eq-Decides name name).1 refl)

-- the number of a name that is taken up, if it is new
number_taken : (name : List ℕ) (names : List (List ℕ)) (n : Option ℕ) → number_of name names ≡ n → number_of name (if is_none n then names ++ name ∷ [] else names) ≡ Some (unwrap_or n (length names))
number_taken name names None is = number_last name names is
number_taken name names (Some i) is = is

kept_beside : (name other : List ℕ) (names : List (List ℕ)) (i : ℕ) (n : Option ℕ) → number_of name names ≡ Some i → number_of name (if is_none n then names ++ other ∷ [] else names) ≡ Some i
kept_beside name other names i None is = number_kept name names (other ∷ []) i is
kept_beside name other names i (Some k) is = is

kept_words : (name other : List ℕ) (names : List (List ℕ)) (i : ℕ) (marker : Bool) → number_of name names ≡ Some i → number_of name (fold grown names (if marker then [] else other ∷ [])) ≡ Some i
kept_words name other names i true is = is
kept_words name other names i false is = kept_beside name other names i (number_of other names) is

kept_next : (within : Bool) (rows : RowsSaid) (columns : ColumnsSaid) (line : TextLine) (name : List ℕ) (i : ℕ) → number_of name columns.names ≡ Some i → number_of name (columns_next within rows columns line).names ≡ Some i
kept_next false rows columns line name i is = is
kept_next true rows columns line name i is = kept_words name (field 0 line) columns.names i (is_marker line) is

-- a column keeps its number through later lines
kept_on : (before rest : List TextLine) (name : List ℕ) (i : ℕ) → number_of name (column_names_of before) ≡ Some i → number_of name (column_names_of (before ++ rest)) ≡ Some i
kept_on before rest name i is = by_lines (λ xs. number_of name (column_names_of xs) ≡ Some i) (λ xs x old. subst (λ (b : Before). number_of name b.columns.names ≡ Some i) (sym (goes_on.more xs x)) (kept_next (is_within is_columns (section_of xs) x) (rows_of xs) (columns_of xs) x name i old)) before rest is

-- behind a column's line its name has the number that the line gives it
taken_next : (within : Bool) (rows : RowsSaid) (columns : ColumnsSaid) (line : TextLine) → within ≡ true → is_marker line ≡ false → number_of (field 0 line) (columns_next within rows columns line).names ≡ Some (column_number columns.names (field 0 line))
taken_next false rows columns line on plain = absurd cc
taken_next true rows columns line on plain =
    ap (λ (marker : Bool). number_of (field 0 line) (fold grown columns.names (if marker then [] else field 0 line ∷ []))) plain
    ∙ number_taken (field 0 line) columns.names (number_of (field 0 line) columns.names) refl

taken_at : (before : List TextLine) (line : TextLine) → IsColumnsLine before line → number_of (field 0 line) (column_names_of (before ++ line ∷ [])) ≡ Some (column_number (column_names_of before) (field 0 line))
taken_at before line (within, plain) = subst (λ (b : Before). number_of (field 0 line) b.columns.names ≡ Some (column_number (column_names_of before) (field 0 line))) (sym (goes_on.more before line)) (taken_next (is_within is_columns (section_of before) line) (rows_of before) (columns_of before) line within plain)

-- the number of a line's column by the names of all lines
pub number_in_all : (lines : List TextLine) (n : ℕ) → n < length lines → IsColumnsLine (take n lines) (get_or lines n no_line) → number_of (field 0 (get_or lines n no_line)) (column_names_of lines) ≡ Some (column_number (column_names_of (take n lines)) (field 0 (get_or lines n no_line)))
number_in_all lines n lt columns =
    let line : TextLine = get_or lines n no_line in
    let number : ℕ = column_number (column_names_of (take n lines)) (field 0 line) in
    let whole : (take n lines ++ line ∷ []) ++ drop (n + 1) lines ≡ lines = ap (λ (front : List TextLine). front ++ drop (n + 1) lines) (sym (take_more lines n no_line lt)) ∙ take-append-drop (n + 1) lines in
    subst (λ (xs : List TextLine). number_of (field 0 line) (column_names_of xs) ≡ Some number) whole (kept_on (take n lines ++ line ∷ []) (drop (n + 1) lines) (field 0 line) number (taken_at (take n lines) line columns))
