-- The names of columns, and those of the rows of an accepted file, are those that lines give, each once.
use Rattle.std.proofs.Common.{◌≡◌, refl, sym, subst, ap, ◌∙◌, ℕ, ◌+◌, ◌<◌, Bool, true, false, List, [], ◌∷◌, ◌++◌, length, fold, take, get_or, arith, inl, inr}
use Rattle.std.specs.Prelude.{not, ◌&&◌, if◌then◌else◌, Option, Some, None, is_none, option_map}
use Rattle.std.specs.Option.{option_to_list}
use Rattle.std.proofs.lemmas.Bool.{cases_lt}
use Rattle.std.proofs.lemmas.List.{append-nil, get_or-take, length-take-le, length_push, take-take, take_more}
use Rattle.std.proofs.lemmas.List.Sums.{fold-append}
use Rattle.base_words.proofs.Comparisons.{not_not}
use Rattle.line_core.specs.Names.{number_of}
use Rattle.smps_words.proofs.PlaceLaw.{says}
use Rattle.smps_words.proofs.ToldLaws.{told_push}
use Rattle.smps_words.specs.Outcomes.{Outcome, all_told}
use Rattle.smps_words.specs.Outcomes.Outcome.{Ended}
use Rattle.smps_words.specs.FirstPlaces.{CleanTo, Says}
use Rattle.smps_words.specs.Tables.{first_true, ◌or◌}
use Rattle.smps_words.specs.TextLines.{TextLine, field, no_line}
use Rattle.smps_words.specs.declared.core_data.RowKind.{RowKind}
use Rattle.core_lines.specs.ColumnLines.{grown, is_marker, words_in}
use Rattle.core_lines.specs.Headers.{header_fault, is_columns, is_rows}
use Rattle.core_lines.specs.Lines.{before_of, column_names_of, data_fault, is_end_header, is_within, rows_of, section_of}
use Rattle.core_lines.specs.Meaning.{fault_behind, outcome_of}
use Rattle.core_lines.specs.Parts.{RowsSaid}
use Rattle.core_lines.specs.RowLines.{is_full, is_unknown, names_added, names_in, row_fault}
use Rattle.core_lines.specs.Words.{row_kind_named}
use Rattle.core_lines.specs.declared.kinds.CoreKind.{CoreKind}
use Rattle.core_lines.specs.declared.kinds.CoreKind.TheVariants as kinds
use Rattle.core_lines.specs.declared.words.Section.{Section}
use Rattle.core_lines.specs.declared.words.Section.TheVariants as sections
use Rattle.smps_core.proofs.Accepted.{by_lines}
use Rattle.smps_core.proofs.NameOrders.{are_in_order, at, at_new, at_old, collected}
use Rattle.smps_core.specs.NameOrder.{AreInOrder, column_given, is_constraint, row_given}

-- a line's words, as the name that it gives
column_words : (within marker : Bool) (name : List ℕ) → (if within then (if marker then [] else name ∷ []) else []) ≡ option_to_list (if within && not marker then Some name else None)
column_words true true name = refl
column_words true false name = refl
column_words false marker name = refl

row_words : (within : Bool) (kind : Option (Option RowKind)) (name : List ℕ) → (if within then names_added kind name else []) ≡ option_to_list (if within && is_constraint kind then Some name else None)
row_words true None name = refl
row_words true (Some None) name = refl
row_words true (Some (Some kind)) name = refl
row_words false kind name = refl

-- equal tables tell the same
told_same : {X : Type 0} (f g : List TextLine → TextLine → List X) → ((before : List TextLine) (line : TextLine) → f before line ≡ g before line) → (lines : List TextLine) → all_told f [] lines ≡ all_told g [] lines
told_same {X} f g same lines = ap (λ (h : List TextLine → TextLine → List X). all_told h [] lines) (λ i before line. same before line i)

columns_collected : (lines : List TextLine) → column_names_of lines ≡ collected column_given lines
columns_collected lines =
    ap (fold grown []) (told_same (λ before line. if is_within is_columns (section_of before) line then words_in line else []) (λ before line. option_to_list (column_given before line)) (λ before line. column_words (is_within is_columns (section_of before) line) (is_marker line) (field 0 line)) lines)

pub columns_in_order : (lines : List TextLine) → AreInOrder column_given lines (column_names_of lines)
columns_in_order lines = subst (λ (names : List (List ℕ)). AreInOrder column_given lines names) (sym (columns_collected lines)) (are_in_order column_given lines)

-- none of the lines has a fault behind those before it
abbrev pub AreClean : List TextLine → Type 0
AreClean lines = (n : ℕ) → n < length lines → at fault_behind lines n ≡ None

-- a table of ROWS without a fault: the name is new
third_off : (count kind old full : Bool) → first_true ((count, kinds.Fields) ∷ (kind, kinds.Fields) ∷ (old, kinds.Twice) ∷ (full, kinds.Limit) ∷ []) ≡ None → old ≡ false
third_off true kind old full none = absurd cc
third_off false true old full none = absurd cc
third_off false false true full none = absurd cc
third_off false false false full none = refl

no_number : (n : Option ℕ) (other : Option (Option ℕ)) → is_none (option_map (λ i. Some (i + 1)) n or other) ≡ true → n ≡ None
no_number None other is = refl
no_number (Some i) other is = cc

new_row : (rows : RowsSaid) (line : TextLine) → row_fault rows line ≡ None → number_of (field 1 line) rows.names ≡ None
new_row rows line none =
    let unknown : is_unknown rows (field 1 line) ≡ true = not_not (is_unknown rows (field 1 line)) (third_off _ _ (not (is_unknown rows (field 1 line))) (is_full rows (row_kind_named (field 0 line))) none) in
    no_number (number_of (field 1 line) rows.names) _ unknown

-- the section of ROWS
section_rows : (section : Section) → is_rows section ≡ true → section ≡ sections.Rows
section_rows sections.Rows on = refl
section_rows sections.Start on = cc
section_rows sections.Name on = cc
section_rows sections.Sense on = cc
section_rows sections.Columns on = cc
section_rows sections.Rights on = cc
section_rows sections.Ranges on = cc
section_rows sections.Bounds on = cc
section_rows sections.End on = cc
section_rows sections.Other on = cc

both : (header rows : Bool) → (not header && rows) ≡ true → (header ≡ false) × (rows ≡ true)
both true rows is = cc
both false rows is = (refl, is)

-- a line of ROWS without a fault
in_rows : (lines : List TextLine) (line : TextLine) → is_within is_rows (section_of lines) line ≡ true → fault_behind lines line ≡ None → row_fault (rows_of lines) line ≡ None
in_rows lines line within none =
    let parts = both line.header (is_rows (section_of lines)) within in
    sym (ap (λ (h : Bool). if h then header_fault (before_of lines) line else data_fault (section_of lines) (before_of lines) line) parts.0 ∙ ap (λ (s : Section). data_fault s (before_of lines) line) (section_rows (section_of lines) parts.1)) ∙ none

-- adding the name of a line of ROWS without a fault is taking it up where it is new
added : (names : List (List ℕ)) (kind : Option (Option RowKind)) (name : List ℕ) → number_of name names ≡ None → names ++ names_added kind name ≡ fold grown names (names_added kind name)
added names None name none = append-nil names
added names (Some None) name none = append-nil names
added names (Some (Some kind)) name none = sym (ap (λ (n : Option ℕ). if is_none n then names ++ name ∷ [] else names) none)

added_within : (lines : List TextLine) (line : TextLine) (within : Bool) → is_within is_rows (section_of lines) line ≡ within → fault_behind lines line ≡ None → (rows_of lines).names ++ (if within then names_in line else []) ≡ fold grown (rows_of lines).names (if within then names_in line else [])
added_within lines line false is none = append-nil (rows_of lines).names
added_within lines line true is none = added (rows_of lines).names (row_kind_named (field 0 line)) (field 1 line) (new_row (rows_of lines) line (in_rows lines line is none))

abbrev row_tells : List TextLine → TextLine → List (List ℕ)
row_tells before line = if is_within is_rows (section_of before) line then names_in line else []

-- if none has a fault, so none of the lines before the last, and not the last
pub clean_parts : (lines : List TextLine) (line : TextLine) → AreClean (lines ++ line ∷ []) → AreClean lines × (fault_behind lines line ≡ None)
clean_parts lines line clean =
    let long = length_push lines line in
    (λ n lt. sym (at_old fault_behind lines line n lt) ∙ clean n (omega (arith, lt, long)), sym (at_new fault_behind lines line) ∙ clean (length lines) (omega (arith, long)))

rows_once : (lines : List TextLine) → AreClean lines → (rows_of lines).names ≡ fold grown [] (all_told row_tells [] lines)
rows_once lines clean = by_lines (λ xs. AreClean xs → (rows_of xs).names ≡ fold grown [] (all_told row_tells [] xs)) one [] lines (λ none. refl) clean
  where
    one : (xs : List TextLine) (x : TextLine) → (AreClean xs → (rows_of xs).names ≡ fold grown [] (all_told row_tells [] xs)) → AreClean (xs ++ x ∷ []) → (rows_of (xs ++ x ∷ [])).names ≡ fold grown [] (all_told row_tells [] (xs ++ x ∷ []))
    one xs x before clean =
        let parts = clean_parts xs x clean in
        told_push row_tells xs x
        ∙ added_within xs x (is_within is_rows (section_of xs) x) refl parts.1
        ∙ ap (λ (names : List (List ℕ)). fold grown names (row_tells xs x)) (before parts.0)
        ∙ sym (fold-append grown [] (all_told row_tells [] xs) (row_tells xs x))
        ∙ sym (ap (fold grown []) (told_push row_tells xs x))

rows_collected : (lines : List TextLine) → AreClean lines → (rows_of lines).names ≡ collected row_given lines
rows_collected lines clean =
    rows_once lines clean
    ∙ ap (fold grown []) (told_same row_tells (λ before line. option_to_list (row_given before line)) (λ before line. row_words (is_within is_rows (section_of before) line) (row_kind_named (field 0 line)) (field 1 line)) lines)

rows_of_clean : (lines : List TextLine) → AreClean lines → AreInOrder row_given lines (rows_of lines).names
rows_of_clean lines clean = subst (λ (names : List (List ℕ)). AreInOrder row_given lines names) (sym (rows_collected lines clean)) (are_in_order row_given lines)

-- one more line without a fault
clean_more : (lines : List TextLine) (line : TextLine) → AreClean lines → fault_behind lines line ≡ None → AreClean (lines ++ line ∷ [])
clean_more lines line clean none n lt =
    let long = length_push lines line in
    elim (cases_lt n (length lines)) [
      | inl less ↦ at_old fault_behind lines line n less ∙ clean n less
      | inr past ↦
          let last : length lines ≡ n = omega (arith, past, lt, long) in
          sym (ap (at fault_behind (lines ++ line ∷ [])) last) ∙ at_new fault_behind lines line ∙ none
    ]

-- the lines before a place up to which none has a fault
clean_front : (lines : List TextLine) (n : ℕ) → n < length lines → CleanTo fault_behind is_end_header lines n → AreClean (take n lines)
clean_front lines n inside clean m lt =
    let long : length (take n lines) ≡ n = length-take-le n lines (omega (arith, inside)) in
    let less : m < n = omega (arith, lt, long) in
    ap (λ (b : List TextLine). fault_behind b (get_or (take n lines) m no_line)) (take-take m n lines (omega (arith, less)))
    ∙ ap (λ (l : TextLine). fault_behind (take m lines) l) (get_or-take n lines m no_line less)
    ∙ (clean m less no_line).0

clean_ended : (lines before : List TextLine) → Says fault_behind is_end_header lines (Ended before) → AreClean before
clean_ended lines before (n, line, at_line, is, none, ends, clean) =
    let whole : before ≡ take n lines ++ line ∷ [] = is ∙ take_more lines n line at_line.0 ∙ ap (λ (l : TextLine). take n lines ++ l ∷ []) at_line.1 in
    subst AreClean (sym whole) (clean_more (take n lines) line (clean_front lines n at_line.0 clean) none)

-- no line of an accepted file has a fault
pub accepted_clean : (lines before : List TextLine) → outcome_of lines ≡ Ended before → AreClean before
accepted_clean lines before is = clean_ended lines before (subst (λ (o : Outcome TextLine CoreKind (List TextLine)). Says fault_behind is_end_header lines o) is (says fault_behind is_end_header lines))

-- the rows of an accepted file
pub rows_in_order : (lines before : List TextLine) → outcome_of lines ≡ Ended before → AreInOrder row_given before (rows_of before).names
rows_in_order lines before is = rows_of_clean before (accepted_clean lines before is)
