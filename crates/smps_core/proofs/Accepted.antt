-- What an accepted core file's lines say fits together: the pairs' rows are there, and no box is empty.
use Rattle.smps_words.proofs.Asking.{lines_ask}
use Rattle.smps_words.specs.Memory.{MayRefuse}
use Rattle.std.proofs.Common.{◌≡◌, refl, sym, subst, ap, ◌∙◌, ℕ, ◌+◌, ◌≤◌, ◌<◌, ◌==◌, Bool, true, false, List, [], ◌∷◌, ◌++◌, length, take, get_or, append_assoc, length-append, arith}
use Rattle.std.specs.Prelude.{◌&&◌, not, if◌then◌else◌, Option, Some, None, Result, Ok, Err, IfOk, IfSome, option_map, nat_lt, unwrap_or}
use Rattle.std.specs.List.{All}
use Rattle.std.proofs.lemmas.List.{append-nil, take_more}
use Rattle.std.proofs.lemmas.List.Elements.{All-append, All-cons, All-nil}
use Rattle.std.proofs.lemmas.List.Quantifiers.{position-Some}
use Rattle.std.specs.Str.{bytes_eq}
use Rattle.base_words.proofs.Comparisons.{both_parts}
use Rattle.line_core.specs.SplitLines.{lines_of}
use Rattle.line_core.specs.Names.{number_of}
use Rattle.line_core.specs.declared.line_list.Line.{Line}
use Rattle.line_core.specs.declared.line_list.LineFault.{LineFault}
use Rattle.line_core.specs.declared.line_list.LineFault.TheVariants as line_faults
use Rattle.dec_core.specs.declared.decimal.Decimal.{Decimal}
use Rattle.smps_words.proofs.PlaceLaw.{says}
use Rattle.smps_words.specs.Outcomes.{Outcome, answer_of}
use Rattle.smps_words.specs.Outcomes.Outcome.{Faulty, Ended, Endless}
use Rattle.smps_words.specs.FirstPlaces.{Says}
use Rattle.smps_words.specs.Tables.{first_true, ◌or◌}
use Rattle.smps_words.specs.TextLines.{TextLine, field_count, last_number, text_lines}
use Rattle.core_lines.proofs.NextLaw.{goes_on}
use Rattle.core_lines.specs.BoundLines.{bounds_next}
use Rattle.core_lines.specs.Boxes.{has_empty_box}
use Rattle.core_lines.specs.ColumnLines.{cell_for, cell_in, cells_in, columns_next, has_second, is_marker}
use Rattle.core_lines.specs.Headers.{header_fault, is_bounds, is_columns, is_ending, is_in_place, is_name, is_rows, is_sense, section_of_word}
use Rattle.core_lines.specs.Lines.{before_of, data_fault, is_end_header, is_within, line_fault, next}
use Rattle.core_lines.specs.Meaning.{fault_behind, meaning, outcome_of, said_by_read, said_by}
use Rattle.core_lines.specs.Parts.{Before, BoundsSaid, ColumnsSaid, RowsSaid}
use Rattle.core_lines.specs.RowLines.{names_in, row_place, rows_next}
use Rattle.core_lines.specs.declared.cells.Cell.{Cell}
use Rattle.core_lines.specs.declared.kinds.CoreKind.{CoreKind}
use Rattle.core_lines.specs.declared.kinds.CoreKind.TheVariants as kinds
use Rattle.smps_core.specs.CoreMeaning.{FitsTogether}

-- from no line on, one line more at a time
pub by_lines : (P : List TextLine → Type 0) → ((xs : List TextLine) (x : TextLine) → P xs → P (xs ++ x ∷ [])) → (before rest : List TextLine) → P before → P (before ++ rest)
by_lines P step before [] base = subst P (sym (append-nil before)) base
by_lines P step before (x ∷ rest) base = subst P (append_assoc before (x ∷ []) rest) (by_lines P step (before ++ x ∷ []) rest (step before x base))

number_below : (name : List ℕ) (names : List (List ℕ)) (n : Option ℕ) → number_of name names ≡ n → IfSome n (λ i. i < length names)
number_below name names None is = tt
number_below name names (Some i) is = (position-Some (bytes_eq name) names i [] is).0

place_by : (rows : RowsSaid) (n f : Option ℕ) → IfSome n (λ i. i < length rows.names) → IfSome (unwrap_or (option_map (λ i. Some (i + 1)) n or option_map (λ i. if i == 0 then Some 0 else None) f) None) (λ place. place ≤ length rows.names)
place_by rows (Some i) f lt = omega (arith, lt)
place_by rows None (Some i) lt = by (i == 0)
  where
    by : (t : Bool) → IfSome (if t then Some 0 else None) (λ place. place ≤ length rows.names)
    by true = omega arith
    by false = tt
place_by rows None None lt = tt

place_low : (rows : RowsSaid) (name : List ℕ) → IfSome (row_place rows name) (λ place. place ≤ length rows.names)
place_low rows name = place_by rows (number_of name rows.names) (number_of name rows.frees) (number_below name rows.names (number_of name rows.names) refl)

abbrev IsLow : ℕ → Cell → Type 0
IsLow count c = c.row ≤ count

cell_low : (count : ℕ) (place : Option ℕ) (column : ℕ) (value : Decimal) (number : ℕ) → IfSome place (λ p. p ≤ count) → All (IsLow count) (cell_for place column value number)
cell_low count None column value number le = All-nil (IsLow count)
cell_low count (Some place) column value number le = All-cons (IsLow count) (record { row = place; column = column; value = value; line = number }) [] le (All-nil (IsLow count))

cells_low : (rows : RowsSaid) (names : List (List ℕ)) (line : TextLine) → All (IsLow (length rows.names)) (cells_in rows names line)
cells_low rows names line = by (is_marker line)
  where
    second : (t : Bool) → All (IsLow (length rows.names)) (if t then cell_in rows names 3 line else [])
    second true = cell_low (length rows.names) (row_place rows _) _ _ _ (place_low rows _)
    second false = All-nil (IsLow (length rows.names))

    by : (t : Bool) → All (IsLow (length rows.names)) (if t then [] else (cell_in rows names 1 line ++ (if has_second line then cell_in rows names 3 line else [])))
    by true = All-nil (IsLow (length rows.names))
    by false = All-append (IsLow (length rows.names)) (cell_in rows names 1 line) (if has_second line then cell_in rows names 3 line else []) (cell_low (length rows.names) (row_place rows _) _ _ _ (place_low rows _)) (second (has_second line))

abbrev Placed : RowsSaid → ColumnsSaid → Type 0
Placed rows columns = All (IsLow (length rows.names)) columns.cells

more_columns : (w : Bool) (rows : RowsSaid) (columns : ColumnsSaid) (line : TextLine) → Placed rows columns → Placed rows (columns_next w rows columns line)
more_columns false rows columns line placed = placed
more_columns true rows columns line placed = All-append (IsLow (length rows.names)) columns.cells (cells_in rows columns.names line) placed (cells_low rows columns.names line)

more_rows : (w : Bool) (rows : RowsSaid) (line : TextLine) → length rows.names ≤ length (rows_next w rows line).names
more_rows false rows line = omega arith
more_rows true rows line = rw (length-append rows.names (names_in line)) (omega arith)

placed_next : (b : Before) (line : TextLine) → Placed b.rows b.columns → Placed (next b line).rows (next b line).columns
placed_next b line placed = λ k d lt.
    let low = more_columns (is_within is_columns b.headers.section line) b.rows b.columns line placed k d lt in
    let longer = more_rows (is_within is_rows b.headers.section line) b.rows line in
    omega (arith, low, longer)

pub placed : (lines : List TextLine) → Placed (before_of lines).rows (before_of lines).columns
placed lines = by_lines (λ xs. Placed (before_of xs).rows (before_of xs).columns) (λ xs x before. subst (λ (b : Before). Placed b.rows b.columns) (sym (goes_on.more xs x)) (placed_next (before_of xs) x before)) [] lines (All-nil (IsLow 0))

-- a header's table without a fault: its last test is false
last_off : (sense out fields bare empty : Bool) → first_true ((sense, kinds.Sense) ∷ (out, kinds.Section) ∷ (fields, kinds.Fields) ∷ (bare, kinds.NoObjective) ∷ (empty, kinds.EmptyBox) ∷ []) ≡ None → empty ≡ false
last_off true out fields bare empty none = absurd cc
last_off false true fields bare empty none = absurd cc
last_off false false true bare empty none = absurd cc
last_off false false false true empty none = absurd cc
last_off false false false false true none = absurd cc
last_off false false false false false none = refl

-- the header that ends the file without a fault: no box is empty
no_empty : (b : Before) (line : TextLine) → header_fault b line ≡ None → is_ending (section_of_word line) ≡ true → has_empty_box b.bounds.bounds (length b.columns.names) ≡ false
no_empty b line none ending =
    sym (ap (λ (t : Bool). t && has_empty_box b.bounds.bounds (length b.columns.names)) ending)
    ∙ last_off (is_sense (section_of_word line)) (not (is_in_place b.headers (section_of_word line))) (not (is_name (section_of_word line)) && nat_lt 1 (field_count line)) (is_columns (section_of_word line) && nat_lt (length b.rows.frees) 1) (is_ending (section_of_word line) && has_empty_box b.bounds.bounds (length b.columns.names)) none

pub fault_there : (b : Before) (line : TextLine) → line.header ≡ true → line_fault b line ≡ None → header_fault b line ≡ None
fault_there b line header none = sym (ap (λ (h : Bool). if h then header_fault b line else data_fault b.headers.section b line) header) ∙ none

filled_next : (b : Before) (line : TextLine) → line_fault b line ≡ None → is_end_header line ≡ true → has_empty_box (next b line).bounds.bounds (length (next b line).columns.names) ≡ false
filled_next b line none ends =
    let header = both_parts line.header (is_ending (section_of_word line)) ends in
    ap (λ (s : BoundsSaid). has_empty_box s.bounds (length (next b line).columns.names)) (ap (λ (h : Bool). bounds_next (not h && is_bounds b.headers.section) b.columns.names b.bounds line) header.0)
    ∙ ap (λ (s : ColumnsSaid). has_empty_box b.bounds.bounds (length s.names)) (ap (λ (h : Bool). columns_next (not h && is_columns b.headers.section) b.rows b.columns line) header.0)
    ∙ no_empty b line (fault_there b line header.0 none) header.1

filled_end : (xs before : List TextLine) (n : ℕ) (line : TextLine) → n < length xs → get_or xs n line ≡ line → before ≡ take (n + 1) xs → fault_behind (take n xs) line ≡ None → is_end_header line ≡ true → has_empty_box (before_of before).bounds.bounds (length (before_of before).columns.names) ≡ false
filled_end xs before n line lt at is none ends =
    let whole : before ≡ take n xs ++ line ∷ [] = is ∙ take_more xs n line lt ∙ ap (λ (l : TextLine). take n xs ++ l ∷ []) at in
    let same : before_of before ≡ next (before_of (take n xs)) line = ap before_of whole ∙ goes_on.more (take n xs) line in
    ap (λ (b : Before). has_empty_box b.bounds.bounds (length b.columns.names)) same ∙ filled_next (before_of (take n xs)) line none ends

fits_before : (xs before : List TextLine) → Says fault_behind is_end_header xs (Ended before) → FitsTogether (before_of before)
fits_before xs before (n, line, at, is, none, ends, clean) = record {
  placed = placed before;
  filled = filled_end xs before n line at.0 at.1 is none ends;
}

ok_is : {X E : Type 0} (x : X) (r : Result X E) → r ≡ Ok x → IfOk r (λ y. y ≡ x)
ok_is x (Ok y) is = cc
ok_is x (Err e) is = tt

by_outcome : (xs : List TextLine) (last : ℕ) (o : Outcome TextLine CoreKind (List TextLine)) (said : Before) → Says fault_behind is_end_header xs o → answer_of before_of last kinds.NoEnd o ≡ Ok said → FitsTogether said
by_outcome xs last (Faulty line kind) said there is = absurd cc
by_outcome xs last (Ended before) said there is = subst FitsTogether (ok_is said (Ok (before_of before)) is) (fits_before xs before there)
by_outcome xs last Endless said there is = absurd cc

by_read : (bytes : List ℕ) (r : Result (List Line) LineFault) (said : Before) → said_by_read bytes r ≡ Ok said → FitsTogether said
by_read bytes (Ok lines) said is = by_outcome (text_lines bytes lines) (last_number (text_lines bytes lines)) (outcome_of (text_lines bytes lines)) said (says fault_behind is_end_header (text_lines bytes lines)) is
by_read bytes (Err (line_faults.NotAscii line)) said is = absurd cc
by_read bytes (Err (line_faults.TooLong line)) said is = absurd cc
by_read bytes (Err line_faults.Memory) said is = absurd cc

pub fits_together : (bytes : List ℕ) (said : Before) → meaning bytes ≡ Ok said → FitsTogether said
fits_together bytes said is = by_read bytes (lines_of bytes) said is

-- an accepted file has lines, and so asks for memory
asked_for : (bytes : List ℕ) (lines : List Line) (said : Before) → lines_of bytes ≡ Ok lines → said_by (text_lines bytes lines) ≡ Ok said → MayRefuse bytes
asked_for bytes [] said is reads = absurd cc
asked_for bytes (line ∷ lines) said is reads = lines_ask bytes (line ∷ lines) is (omega arith)

asked_by : (bytes : List ℕ) (r : Result (List Line) LineFault) (said : Before) → lines_of bytes ≡ r → said_by_read bytes r ≡ Ok said → MayRefuse bytes
asked_by bytes (Ok lines) said is reads = asked_for bytes lines said is reads
asked_by bytes (Err (line_faults.NotAscii line)) said is reads = absurd cc
asked_by bytes (Err (line_faults.TooLong line)) said is reads = absurd cc
asked_by bytes (Err line_faults.Memory) said is reads = absurd cc

pub accepted_asks : (bytes : List ℕ) (said : Before) → meaning bytes ≡ Ok said → MayRefuse bytes
accepted_asks bytes said is = asked_by bytes (lines_of bytes) said refl is
