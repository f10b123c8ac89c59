-- What the lines say goes on line by line, as `next` says.
use Rattle.std.proofs.Common.{◌≡◌, refl, ap, ◌∙◌, Bool, true, false, List, [], ◌∷◌, ◌++◌, fold}
use Rattle.std.specs.Prelude.{not, ◌&&◌, ◌||◌, Some, if◌then◌else◌}
use Rattle.std.proofs.lemmas.List.{append-nil}
use Rattle.std.proofs.lemmas.List.Folds.{list_any-append}
use Rattle.std.proofs.lemmas.List.Sums.{fold-append}
use Rattle.base_words.proofs.Booleans.{or_false}
use Rattle.smps_words.proofs.ToldLaws.{told_push}
use Rattle.smps_words.specs.Outcomes.{all_told, last_or, first_or_none, GoesOn}
use Rattle.smps_words.specs.Tables.{◌or◌}
use Rattle.smps_words.specs.TextLines.{TextLine}
use Rattle.core_lines.specs.BoundLines.{bound_set, bounds_in, bounds_next}
use Rattle.core_lines.specs.ColumnLines.{grown, words_in, flags_in, marks_in, is_marker, cells_in, columns_next}
use Rattle.core_lines.specs.Headers.{is_rows, is_columns, is_rights, is_ranges, is_bounds, section_of_word, headers_next}
use Rattle.core_lines.specs.Lines.{section_of, has_stood, headers_of, is_within, said_in, rows_of, column_names_of, marked_of, columns_of, side_set_of, sides_of, bound_set_of, bounds_of, before_of, next}
use Rattle.core_lines.specs.RowLines.{names_in, kinds_in, frees_in, rows_next}
use Rattle.core_lines.specs.SideLines.{set_name, sides_in, sides_next}
use Rattle.core_lines.specs.declared.words.Section.{Section}
use Rattle.core_lines.specs.declared.words.Section.TheVariants.{Start}

-- one more line adds what it says where it is a data line of the section, and nothing elsewhere
said_push : {X : Type 0} (is : Section → Bool) (says : List TextLine → TextLine → List X) (lines : List TextLine) (line : TextLine) → said_in is says (lines ++ line ∷ []) ≡ said_in is says lines ++ (if is_within is (section_of lines) line then says lines line else [])
said_push is says lines line = told_push (λ before l. if is_within is (section_of before) l then says before l else []) lines line

said_no : {X : Type 0} (is : Section → Bool) (says : List TextLine → TextLine → List X) (lines : List TextLine) (line : TextLine) → is_within is (section_of lines) line ≡ false → said_in is says (lines ++ line ∷ []) ≡ said_in is says lines
said_no is says lines line off = said_push is says lines line ∙ ap (λ t. said_in is says lines ++ (if t then says lines line else [])) off ∙ append-nil (said_in is says lines)

said_yes : {X : Type 0} (is : Section → Bool) (says : List TextLine → TextLine → List X) (lines : List TextLine) (line : TextLine) → is_within is (section_of lines) line ≡ true → said_in is says (lines ++ line ∷ []) ≡ said_in is says lines ++ says lines line
said_yes is says lines line on = said_push is says lines line ∙ ap (λ t. said_in is says lines ++ (if t then says lines line else [])) on

last_append : {X : Type 0} (other : X) (xs ys : List X) → last_or other (xs ++ ys) ≡ last_or (last_or other xs) ys
last_append other xs ys = fold-append (λ last x. x) other xs ys

first_append : {X : Type 0} (xs : List X) (y : X) → first_or_none (xs ++ y ∷ []) ≡ (first_or_none xs or Some y)
first_append [] y = refl
first_append (x ∷ xs) y = refl

stood_push : (is : Section → Bool) (lines : List TextLine) (line : TextLine) → has_stood is (lines ++ line ∷ []) ≡ (has_stood is lines || (line.header && is (section_of_word line)))
stood_push is lines line =
    list_any-append (λ (l : TextLine). l.header && is (section_of_word l)) lines (line ∷ [])
    ∙ ap (λ b. has_stood is lines || b) (or_false (line.header && is (section_of_word line)))

stood_no : (is : Section → Bool) (lines : List TextLine) (line : TextLine) → line.header ≡ false → has_stood is (lines ++ line ∷ []) ≡ has_stood is lines
stood_no is lines line off = stood_push is lines line ∙ ap (λ h. has_stood is lines || (h && is (section_of_word line))) off ∙ or_false (has_stood is lines)

stood_yes : (is : Section → Bool) (lines : List TextLine) (line : TextLine) → line.header ≡ true → has_stood is (lines ++ line ∷ []) ≡ (has_stood is lines || is (section_of_word line))
stood_yes is lines line on = stood_push is lines line ∙ ap (λ h. has_stood is lines || (h && is (section_of_word line))) on

section_push : (lines : List TextLine) (line : TextLine) → section_of (lines ++ line ∷ []) ≡ last_or (section_of lines) (if line.header then section_of_word line ∷ [] else [])
section_push lines line =
    let tells : List TextLine → TextLine → List Section = λ before l. if l.header then section_of_word l ∷ [] else [] in
    ap (last_or Start) (told_push tells lines line) ∙ last_append Start (all_told tells [] lines) (tells lines line)

headers_law : (h : Bool) (lines : List TextLine) (line : TextLine) → line.header ≡ h → headers_of (lines ++ line ∷ []) ≡ headers_next h (headers_of lines) line
headers_law false lines line off =
    let section : section_of (lines ++ line ∷ []) ≡ section_of lines = section_push lines line ∙ ap (λ h. last_or (section_of lines) (if h then section_of_word line ∷ [] else [])) off in
    let rights = stood_no is_rights lines line off in
    let ranges = stood_no is_ranges lines line off in
    let bounds = stood_no is_bounds lines line off in
    cc
headers_law true lines line on =
    let section : section_of (lines ++ line ∷ []) ≡ section_of_word line = section_push lines line ∙ ap (λ h. last_or (section_of lines) (if h then section_of_word line ∷ [] else [])) on in
    let rights = stood_yes is_rights lines line on in
    let ranges = stood_yes is_ranges lines line on in
    let bounds = stood_yes is_bounds lines line on in
    cc

rows_law : (t : Bool) (lines : List TextLine) (line : TextLine) → is_within is_rows (section_of lines) line ≡ t → rows_of (lines ++ line ∷ []) ≡ rows_next t (rows_of lines) line
rows_law false lines line off =
    let names = said_no is_rows (λ before l. names_in l) lines line off in
    let kinds = said_no is_rows (λ before l. kinds_in l) lines line off in
    let frees = said_no is_rows (λ before l. frees_in l) lines line off in
    cc
rows_law true lines line on =
    let names = said_yes is_rows (λ before l. names_in l) lines line on in
    let kinds = said_yes is_rows (λ before l. kinds_in l) lines line on in
    let frees = said_yes is_rows (λ before l. frees_in l) lines line on in
    cc

columns_law : (t : Bool) (lines : List TextLine) (line : TextLine) → is_within is_columns (section_of lines) line ≡ t → columns_of (lines ++ line ∷ []) ≡ columns_next t (rows_of lines) (columns_of lines) line
columns_law false lines line off =
    let names = ap (fold grown []) (said_no is_columns (λ before l. words_in l) lines line off) in
    let flags = said_no is_columns (λ before l. flags_in (column_names_of before) (marked_of before) l) lines line off in
    let marked = ap (last_or false) (said_no is_columns (λ before l. marks_in l) lines line off) in
    let going = ap (last_or false) (said_no is_columns (λ before l. not (is_marker l) ∷ []) lines line off) in
    let cells = said_no is_columns (λ before l. cells_in (rows_of before) (column_names_of before) l) lines line off in
    cc
columns_law true lines line on =
    let words = said_in is_columns (λ before l. words_in l) lines in
    let marks = said_in is_columns (λ before l. marks_in l) lines in
    let goes = said_in is_columns (λ before l. not (is_marker l) ∷ []) lines in
    let names = ap (fold grown []) (said_yes is_columns (λ before l. words_in l) lines line on) ∙ fold-append grown [] words (words_in line) in
    let flags = said_yes is_columns (λ before l. flags_in (column_names_of before) (marked_of before) l) lines line on in
    let marked = ap (last_or false) (said_yes is_columns (λ before l. marks_in l) lines line on) ∙ last_append false marks (marks_in line) in
    let going = ap (last_or false) (said_yes is_columns (λ before l. not (is_marker l) ∷ []) lines line on) ∙ last_append false goes (not (is_marker line) ∷ []) in
    let cells = said_yes is_columns (λ before l. cells_in (rows_of before) (column_names_of before) l) lines line on in
    cc

sides_law : (t : Bool) (is : Section → Bool) (lines : List TextLine) (line : TextLine) → is_within is (section_of lines) line ≡ t → sides_of is (lines ++ line ∷ []) ≡ sides_next t (rows_of lines) (sides_of is lines) line
sides_law false is lines line off =
    let set = ap first_or_none (said_no is (λ before l. set_name l ∷ []) lines line off) in
    let values = said_no is (λ before l. sides_in (rows_of before) (side_set_of is before) l) lines line off in
    cc
sides_law true is lines line on =
    let set = ap first_or_none (said_yes is (λ before l. set_name l ∷ []) lines line on) ∙ first_append (said_in is (λ before l. set_name l ∷ []) lines) (set_name line) in
    let values = said_yes is (λ before l. sides_in (rows_of before) (side_set_of is before) l) lines line on in
    cc

bounds_law : (t : Bool) (lines : List TextLine) (line : TextLine) → is_within is_bounds (section_of lines) line ≡ t → bounds_of (lines ++ line ∷ []) ≡ bounds_next t (column_names_of lines) (bounds_of lines) line
bounds_law false lines line off =
    let set = ap first_or_none (said_no is_bounds (λ before l. bound_set l ∷ []) lines line off) in
    let bounds = said_no is_bounds (λ before l. bounds_in (column_names_of before) (bound_set_of before) l) lines line off in
    cc
bounds_law true lines line on =
    let set = ap first_or_none (said_yes is_bounds (λ before l. bound_set l ∷ []) lines line on) ∙ first_append (said_in is_bounds (λ before l. bound_set l ∷ []) lines) (bound_set line) in
    let bounds = said_yes is_bounds (λ before l. bounds_in (column_names_of before) (bound_set_of before) l) lines line on in
    cc

next_is : (lines : List TextLine) (line : TextLine) → before_of (lines ++ line ∷ []) ≡ next (before_of lines) line
next_is lines line =
    let headers = headers_law line.header lines line refl in
    let rows = rows_law (is_within is_rows (section_of lines) line) lines line refl in
    let columns = columns_law (is_within is_columns (section_of lines) line) lines line refl in
    let rights = sides_law (is_within is_rights (section_of lines) line) is_rights lines line refl in
    let ranges = sides_law (is_within is_ranges (section_of lines) line) is_ranges lines line refl in
    let bounds = bounds_law (is_within is_bounds (section_of lines) line) lines line refl in
    cc

pub goes_on : GoesOn before_of next
goes_on = record { more = next_is }
