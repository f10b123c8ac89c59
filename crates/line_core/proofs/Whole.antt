-- the lines of a file have fields in it, and stand in the order of their numbers
use Rattle.std.proofs.Common.{◌≡◌, ℕ, ◌+◌, ◌<◌, ◌≤◌, suc, zero, Bool, true, false, ◌&&◌, List, [], ◌∷◌, ◌++◌, length, take, drop, position, Option, Some, None, Result, Ok, Err, IfOk, refl, sym, ap, ◌∙◌, ◌⊎◌, inl, inr, subst, if◌then◌else◌, arith}
use Rattle.std.specs.List.{All, AllPairs, slice_split, onto_first, list_all}
use Rattle.std.specs.Option.{option_to_list}
use Rattle.std.proofs.lemmas.Bool.{cases_lt}
use Rattle.std.proofs.lemmas.Bool.Decides.{nat_tests}
use Rattle.std.proofs.lemmas.Grind.{common_steps}
use Rattle.std.proofs.lemmas.List.Elements.{All-nil, All-cons, All-weaker}
use Rattle.std.proofs.lemmas.List.Kept.{AllPairs-cons}
use Rattle.std.proofs.lemmas.List.Splits.{slice_split-cons_yes, slice_split-cons_no}
use Rattle.line_core.specs.Fields.{is_blank, part_spans, fields_at, IsSpanOf}
use Rattle.line_core.specs.SplitLines.{is_newline, is_comment, is_unindented, without_return, read_line, fault_or_lines, after_lines, lines_of, Gives, IsAbove, IsLineOf}
use Rattle.line_core.specs.Runs.{IsFieldOf}
use Rattle.line_core.specs.declared.line_list.Line.{Line}
use Rattle.line_core.specs.declared.line_list.LineFault.{LineFault}
use Rattle.line_core.proofs.Parts.{length-taken}
use Rattle.line_core.proofs.Found.{rest_of, rest_some, rest_none}
use Rattle.line_core.proofs.Runs.{each_field, option_cases, small_place}

first_part : (start x : ℕ) (parts : List (List ℕ)) → 0 < length (part_spans start (onto_first x parts))
first_part start x [] = grind (arith, nat_tests)
first_part start x (part ∷ parts) = grind (arith, nat_tests, common_steps)

bool_cases : (b : Bool) → (b ≡ true) ⊎ (b ≡ false)
bool_cases true = inl refl
bool_cases false = inr refl

-- a text without a field has only blanks
no_field : (start : ℕ) (text : List ℕ) → length (fields_at start text) ≡ 0 → list_all is_blank text ≡ true
no_field start [] e = refl
no_field start (x ∷ xs) e =
    elim (bool_cases (is_blank x)) [
      | inl blank ↦ ap (λ b. b && list_all is_blank xs) blank ∙ no_field (start + 0 + 1) xs (sym (ap (λ parts. length (part_spans start parts)) (slice_split-cons_yes is_blank x xs blank)) ∙ e)
      | inr other ↦
          let some = first_part start x (slice_split is_blank xs) in
          let same = ap (λ parts. length (part_spans start parts)) (slice_split-cons_no is_blank x xs other) in
          absurd (omega (arith, some, same, e))
    ]

some_field : (start : ℕ) (text : List ℕ) → is_comment text ≡ false → 0 < length (fields_at start text)
some_field start text h =
    elim (cases_lt 0 (length (fields_at start text))) [
      | inl some ↦ some
      | inr none ↦ absurd (grind (arith, h, no_field start text (omega arith)))
    ]

-- each field of a text within a file is a span of the file
fields_within : (start : ℕ) (text bytes : List ℕ) → start + length text ≤ length bytes → All (IsSpanOf bytes) (fields_at start text)
fields_within start text bytes h = All-weaker (IsFieldOf start text) (IsSpanOf bytes)
    (λ span f. (omega (arith, f.0, f.1.some), omega (arith, f.0, f.1.some, f.1.within))) (fields_at start text) (each_field start text)

-- of a text that is read as a line
chosen : (comment long plain : Bool) (a b : LineFault) (made line : Line) → (if comment then Ok None else (if long then Err a else (if plain then Ok (Some made) else Err b))) ≡ Ok (Some line) → (comment ≡ false) × (made ≡ line)
chosen true long plain a b made line e = absurd (grind arith)
chosen false true plain a b made line e = absurd (grind arith)
chosen false false true a b made line e = (refl, grind arith)
chosen false false false a b made line e = absurd (grind arith)

line_is : (number start : ℕ) (text bytes : List ℕ) (line : Line) → start + length text ≤ length bytes → read_line number start text ≡ Ok (Some line) → (number ≡ line.number) × IsLineOf bytes line
line_is number start text bytes line h e =
    let made : Line = record { number = number; header = is_unindented text; fields = fields_at start text } in
    let c = chosen (is_comment text) _ _ _ _ made line e in
    subst (λ l. (number ≡ l.number) × IsLineOf bytes l) c.1 (refl, (some_field start text c.0, fields_within start text bytes h))

-- a line from a number on
abbrev IsLineFrom : ℕ → List ℕ → Line → Type 0
IsLineFrom number bytes line = (number ≤ line.number) × IsLineOf bytes line

-- lines of a file from a number on
record AreLines (number : ℕ) (bytes : List ℕ) (lines : List Line) : Type 0 where
  each : All (IsLineFrom number bytes) lines
  rise : AllPairs IsAbove lines

later_lines : (number : ℕ) (bytes : List ℕ) (lines : List Line) → AreLines (number + 1) bytes lines → All (IsLineFrom number bytes) lines
later_lines number bytes lines f = All-weaker (IsLineFrom (number + 1) bytes) (IsLineFrom number bytes) (λ line h. (omega (arith, h.0), h.1)) lines f.each

add_line : (number start : ℕ) (text bytes : List ℕ) (line : Option Line) (rest : List Line) → start + length text ≤ length bytes → read_line number start text ≡ Ok line → AreLines (number + 1) bytes rest → AreLines number bytes (option_to_list line ++ rest)
add_line number start text bytes None rest h e f = record { each = later_lines number bytes rest f; rise = f.rise }
add_line number start text bytes (Some line) rest h e f =
    let is = line_is number start text bytes line h e in
    record {
      each = All-cons (IsLineFrom number bytes) line rest (omega (arith, is.0), is.1) (later_lines number bytes rest f);
      rise = AllPairs-cons IsAbove line rest (All-weaker (IsLineFrom (number + 1) bytes) (IsAbove line) (λ below g. omega (arith, g.0, is.0)) rest f.each) f.rise;
    }

no_lines : (number : ℕ) (bytes : List ℕ) → AreLines number bytes []
no_lines number bytes = record { each = All-nil _; rise = λ i j d lt len. absurd (omega arith) }

-- what is read without a fault is a line, and then what is read behind it
after_ok : (front lines : List Line) (rest : Result (List Line) LineFault) → after_lines front rest ≡ Ok lines → (more : List Line) × (rest ≡ Ok more) × (lines ≡ front ++ more)
after_ok front lines (Ok more) e = (more, refl, grind arith)
after_ok front lines (Err f) e = absurd (grind arith)

head_ok : (read : Result (Option Line) LineFault) (rest : List (Result (Option Line) LineFault)) (lines : List Line) → fault_or_lines (read ∷ rest) ≡ Ok lines → (line : Option Line) × (read ≡ Ok line) × ((more : List Line) × (fault_or_lines rest ≡ Ok more) × (lines ≡ option_to_list line ++ more))
head_ok (Ok line) rest lines e = (line, refl, after_ok (option_to_list line) lines (fault_or_lines rest) e)
head_ok (Err f) rest lines e = absurd (grind arith)

-- the last line
last_line : (number at : ℕ) (bytes : List ℕ) (lines : List Line) → at ≤ length bytes → position is_newline (drop at bytes) ≡ None → rest_of bytes number at ≡ Ok lines → AreLines number bytes lines
last_line number at bytes lines within e is =
    let found = head_ok (read_line number at (drop at bytes)) [] lines (sym (rest_none bytes number at e) ∙ is) in
    let none : [] ≡ found.2.0 = grind (arith, found.2.1) in
    let long : at + length (drop at bytes) ≤ length bytes = grind (arith, common_steps) in
    subst (AreLines number bytes) (sym found.2.2)
    (add_line number at (drop at bytes) bytes found.0 found.2.0 long found.1 (subst (AreLines (number + 1) bytes) none (no_lines (number + 1) bytes)))

shorter : (text : List ℕ) → length (without_return text) ≤ length text
shorter text = grind (arith, common_steps)

-- a line before others
first_line : (number at k : ℕ) (bytes : List ℕ) (lines : List Line) → position is_newline (drop at bytes) ≡ Some k → rest_of bytes number at ≡ Ok lines → ((more : List Line) → rest_of bytes (number + 1) (at + (k + 1)) ≡ Ok more → AreLines (number + 1) bytes more) → AreLines number bytes lines
first_line number at k bytes lines e is later =
    let small = small_place is_newline bytes at k 0 e in
    let text = without_return (take k (drop at bytes)) in
    let found = head_ok (read_line number at text) _ lines (sym (rest_some bytes number at k e (omega arith)) ∙ is) in
    let taken = length-taken bytes at k (omega arith) in
    let long : at + length text ≤ length bytes = omega (arith, shorter (take k (drop at bytes)), taken, small) in
    subst (AreLines number bytes) (sym found.2.2) (add_line number at text bytes found.0 found.2.0 long found.1 (later found.2.0 found.2.1))

are_lines : (n number at : ℕ) (bytes : List ℕ) (lines : List Line) → length bytes ≤ at + n → at ≤ length bytes → rest_of bytes number at ≡ Ok lines → AreLines number bytes lines
are_lines zero number at bytes lines many within is =
    elim (option_cases (position is_newline (drop at bytes))) [
      | inl e ↦ last_line number at bytes lines within e is
      | inr s ↦ absurd (omega (arith, small_place is_newline bytes at s.0 0 s.1))
    ]
are_lines (suc n) number at bytes lines many within is =
    elim (option_cases (position is_newline (drop at bytes))) [
      | inl e ↦ last_line number at bytes lines within e is
      | inr s ↦
          let small = small_place is_newline bytes at s.0 0 s.1 in
          first_line number at s.0 bytes lines s.1 is
          (λ more e. are_lines n (number + 1) (at + (s.0 + 1)) bytes more (omega arith) (omega arith) e)
    ]

all_lines : (bytes : List ℕ) (lines : List Line) → lines_of bytes ≡ Ok lines → AreLines 1 bytes lines
all_lines bytes lines e = are_lines (length bytes) 1 0 bytes lines (omega arith) (omega arith) e

pub whole_within : (asked : Bool) (bytes : List ℕ) (read : Result (List Line) LineFault) → Gives asked (lines_of bytes) read → IfOk read (All (IsLineOf bytes))
whole_within asked bytes (Ok lines) h = All-weaker (IsLineFrom 1 bytes) (IsLineOf bytes) (λ line f. f.1) lines (all_lines bytes lines h).each
whole_within asked bytes (Err fault) h = tt

pub whole_rise : (asked : Bool) (bytes : List ℕ) (read : Result (List Line) LineFault) → Gives asked (lines_of bytes) read → IfOk read (AllPairs IsAbove)
whole_rise asked bytes (Ok lines) h = (all_lines bytes lines h).rise
whole_rise asked bytes (Err fault) h = tt
