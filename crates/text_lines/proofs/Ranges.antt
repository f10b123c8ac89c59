-- Lists of lines, one more at a time.
use Rattle.std.proofs.Common.{arith, ap, sym, ◌∙◌, ◌≡◌, ℕ, ◌+◌, ◌^◌, ◌<◌, List, [], ◌∷◌, ◌++◌, length, map, append_assoc, subst}
use Rattle.std.proofs.lemmas.List.Elements.{All-append, All-cons}
use Rattle.std.proofs.lemmas.List.FromFn.{map-range_with_len_more}
use Rattle.std.specs.List.{flat_map, range_with_len}
use Rattle.base_words.proofs.ListSumsByNumber.{flat_map-next}
use Rattle.std.specs.Prelude.{codes, decimal, slice_index_or}
use Rattle.boxed_problem.specs.declared.parts.Limits.{Limits}
use Rattle.smps_words.specs.declared.core_file.Core.{Core}
use Rattle.sp_model.specs.Plans.{no_column}
use Rattle.sp_model.specs.declared.run.Run.{Run}
use Rattle.text_lines.specs.Lines.{AreFull, limit_text, line_of, name_at}
use Rattle.text_lines.specs.ShowLines.{column_line, column_text, limits_line, no_row, row_line}

-- one part more behind a text
pub part_put : (f : ℕ → List ℕ) (old mid new piece : List ℕ) (t : ℕ) → mid ≡ old ++ flat_map f (range_with_len 1 t) → new ≡ mid ++ piece → piece ≡ f (t + 1) → new ≡ old ++ flat_map f (range_with_len 1 (t + 1))
part_put f old mid new piece t begun put is =
    put
    ∙ ap (λ text. text ++ piece) begun
    ∙ append_assoc old (flat_map f (range_with_len 1 t)) piece
    ∙ ap (λ last. old ++ (flat_map f (range_with_len 1 t) ++ last)) is
    ∙ ap (λ text. old ++ text) (sym (flat_map-next f t))

-- one line more behind a first one
pub line_behind : (first : List ℕ) (f : ℕ → List ℕ) (n : ℕ) (lines new : List (List ℕ)) (line : List ℕ) → lines ≡ first ∷ map f (range_with_len 0 n) → new ≡ lines ++ line ∷ [] → line ≡ f n → new ≡ first ∷ map f (range_with_len 0 (n + 1))
line_behind first f n lines new line begun put is =
    let at : 0 + n ≡ n = omega arith in
    put ∙ ap (λ ls. ls ++ line ∷ []) begun ∙ ap (λ l. first ∷ (map f (range_with_len 0 n) ++ l ∷ [])) is ∙ ap (λ ls. first ∷ ls) (sym (map-range_with_len_more f 0 n n at))

line_long : (text : List ℕ) → 0 < length (line_of text)
line_long [] = omega arith
line_long (b ∷ text) = omega arith

-- the lines of `show` aren't empty
pub column_long : (core : Core) (run : Run) (j : ℕ) → 0 < length (column_line core run j)
column_long core run j = line_long (column_text (name_at core.column_names j) (slice_index_or run.program.columns j no_column))

pub row_long : (core : Core) (run : Run) (places : List ℕ) (i : ℕ) → 0 < length (row_line core run places i)
row_long core run places i =
    line_long (codes "row " ++ name_at core.row_names i ++ codes " " ++ decimal (slice_index_or run.program.rows i no_row).stage ++ codes " " ++ decimal (10 ^ slice_index_or places i 0))

pub limits_long : (core : Core) (s i : ℕ) (limits : Limits) → 0 < length (limits_line core s i limits)
limits_long core s i limits =
    line_long (codes "limits " ++ decimal (s + 1) ++ codes " " ++ name_at core.row_names i ++ codes " " ++ limit_text limits.lower ++ codes " " ++ limit_text limits.upper)

-- a line more that isn't empty
pub full_put : (lines new : List (List ℕ)) (line same : List ℕ) → AreFull lines → new ≡ lines ++ line ∷ [] → line ≡ same → 0 < length same → AreFull new
full_put lines new line same full put is long =
    subst AreFull (sym put) (All-append (λ l. 0 < length l) lines (line ∷ []) full (All-cons (λ l. 0 < length l) line [] (subst (λ l. 0 < length l) (sym is) long) (λ k d h. absurd (omega arith))))

-- words and numbers put one after another to an empty line
pub parts_put : (empty first second third word number part rest last : List ℕ) → empty ≡ [] → first ≡ (empty ++ word) ++ number → second ≡ first ++ part → third ≡ (second ++ rest) ++ last →
    third ≡ (((word ++ number) ++ part) ++ rest) ++ last
parts_put empty first second third word number part rest last none e f g =
    let begun : first ≡ word ++ number = e ∙ ap (λ text. (text ++ word) ++ number) none in
    let more : second ≡ (word ++ number) ++ part = f ∙ ap (λ text. text ++ part) begun in
    g ∙ ap (λ text. (text ++ rest) ++ last) more
