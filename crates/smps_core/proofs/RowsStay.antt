-- In an accepted file no line behind the header COLUMNS changes the rows.
use Rattle.std.proofs.Common.{◌≡◌, refl, sym, subst, ap, ◌∙◌, ℕ, Bool, true, false, List, [], ◌∷◌, ◌++◌, length, take, drop}
use Rattle.std.specs.Prelude.{not, ◌&&◌, ◌||◌, None, nat_lt}
use Rattle.std.proofs.lemmas.List.{take-append-drop}
use Rattle.base_words.proofs.Comparisons.{not_not}
use Rattle.base_words.proofs.Booleans.{not_both}
use Rattle.smps_words.specs.Tables.{first_true}
use Rattle.smps_words.specs.TextLines.{TextLine, field_count}
use Rattle.core_lines.proofs.NextLaw.{goes_on}
use Rattle.core_lines.specs.Boxes.{has_empty_box}
use Rattle.core_lines.specs.Headers.{has_columns, header_fault, headers_next, is_columns, is_ending, is_in_place, is_name, is_rows, is_sense, is_start, section_of_word}
use Rattle.core_lines.specs.Lines.{before_of, line_fault, rows_of, section_of}
use Rattle.core_lines.specs.Meaning.{fault_behind}
use Rattle.core_lines.specs.Parts.{Before, HeadersSaid}
use Rattle.core_lines.specs.RowLines.{rows_next}
use Rattle.core_lines.specs.declared.kinds.CoreKind.TheVariants as kinds
use Rattle.core_lines.specs.declared.words.Section.{Section}
use Rattle.core_lines.specs.declared.words.Section.TheVariants as sections
use Rattle.smps_core.proofs.Accepted.{by_lines, fault_there}
use Rattle.smps_core.proofs.GivenNames.{AreClean, clean_parts}

-- the header COLUMNS has stood, by the section of the last header
abbrev is_past : Section → Bool
is_past section = has_columns section || is_ending section

columns_past : (section : Section) → is_columns section ≡ true → is_past section ≡ true
columns_past sections.Columns on = refl
columns_past sections.Start on = absurd cc
columns_past sections.Name on = absurd cc
columns_past sections.Sense on = absurd cc
columns_past sections.Rows on = absurd cc
columns_past sections.Rights on = refl
columns_past sections.Ranges on = refl
columns_past sections.Bounds on = refl
columns_past sections.End on = refl
columns_past sections.Other on = absurd cc

not_before : (section : Section) → is_past section ≡ true → (is_start section ≡ false) × (is_name section ≡ false) × (is_rows section ≡ false)
not_before sections.Columns past = (refl, refl, refl)
not_before sections.Rights past = (refl, refl, refl)
not_before sections.Ranges past = (refl, refl, refl)
not_before sections.Bounds past = (refl, refl, refl)
not_before sections.End past = (refl, refl, refl)
not_before sections.Start past = absurd cc
not_before sections.Name past = absurd cc
not_before sections.Sense past = absurd cc
not_before sections.Rows past = absurd cc
not_before sections.Other past = absurd cc

-- a header that may stand there is past it too
stays_past : (headers : HeadersSaid) (section : Section) → is_past headers.section ≡ true → is_in_place headers section ≡ true → is_past section ≡ true
stays_past headers sections.Columns past in_place = refl
stays_past headers sections.Rights past in_place = refl
stays_past headers sections.Ranges past in_place = refl
stays_past headers sections.Bounds past in_place = refl
stays_past headers sections.End past in_place = refl
stays_past headers sections.Start past in_place = absurd cc
stays_past headers sections.Sense past in_place = absurd cc
stays_past headers sections.Other past in_place = absurd cc
stays_past headers sections.Name past in_place = absurd (not_both (is_start headers.section) in_place (not_before headers.section past).0)
stays_past headers sections.Rows past in_place =
    let early = not_before headers.section past in
    absurd (not_both (is_start headers.section || is_name headers.section) in_place (ap (λ (t : Bool). t || is_name headers.section) early.0 ∙ early.1))

-- a header's table without a fault: its second test is false
second_off : (sense out fields bare empty : Bool) → first_true ((sense, kinds.Sense) ∷ (out, kinds.Section) ∷ (fields, kinds.Fields) ∷ (bare, kinds.NoObjective) ∷ (empty, kinds.EmptyBox) ∷ []) ≡ None → out ≡ false
second_off true out fields bare empty none = absurd cc
second_off false true fields bare empty none = absurd cc
second_off false false fields bare empty none = refl

header_in_place : (b : Before) (line : TextLine) → header_fault b line ≡ None → is_in_place b.headers (section_of_word line) ≡ true
header_in_place b line none =
    not_not (is_in_place b.headers (section_of_word line))
    (second_off (is_sense (section_of_word line)) (not (is_in_place b.headers (section_of_word line))) (not (is_name (section_of_word line)) && nat_lt 1 (field_count line)) (is_columns (section_of_word line) && nat_lt (length b.rows.frees) 1) (is_ending (section_of_word line) && has_empty_box b.bounds.bounds (length b.columns.names)) none)

one_more : (header : Bool) (b : Before) (line : TextLine) → line.header ≡ header → line_fault b line ≡ None → is_past b.headers.section ≡ true → (is_past (headers_next header b.headers line).section ≡ true) × (rows_next (not header && is_rows b.headers.section) b.rows line ≡ b.rows)
one_more true b line is none past = (stays_past b.headers (section_of_word line) past (header_in_place b line (fault_there b line is none)), refl)
one_more false b line is none past = (past, ap (λ (t : Bool). rows_next t b.rows line) (not_before b.headers.section past).2)

abbrev StaysFrom : List TextLine → List TextLine → Type 0
StaysFrom front lines = (is_past (section_of lines) ≡ true) × (rows_of lines ≡ rows_of front)

stays_next : (front lines : List TextLine) (line : TextLine) → fault_behind lines line ≡ None → StaysFrom front lines → StaysFrom front (lines ++ line ∷ [])
stays_next front lines line none (past, same) =
    let next_is = one_more line.header (before_of lines) line refl none past in
    subst (λ (b : Before). (is_past b.headers.section ≡ true) × (b.rows ≡ rows_of front)) (sym (goes_on.more lines line)) (next_is.0, next_is.1 ∙ same)

stays : (front rest : List TextLine) → is_past (section_of front) ≡ true → AreClean (front ++ rest) → StaysFrom front (front ++ rest)
stays front rest past clean = by_lines (λ xs. AreClean xs → StaysFrom front xs) (λ xs x old now. let parts = clean_parts xs x now in stays_next front xs x parts.1 (old parts.0)) front rest (λ now. (past, refl)) clean

-- the rows behind a line of COLUMNS are those before it
pub rows_stay : (lines : List TextLine) (n : ℕ) → AreClean lines → is_columns (section_of (take n lines)) ≡ true → rows_of lines ≡ rows_of (take n lines)
rows_stay lines n clean on =
    let whole = take-append-drop n lines in
    ap rows_of (sym whole) ∙ (stays (take n lines) (drop n lines) (columns_past (section_of (take n lines)) on) (subst AreClean (sym whole) clean)).1
