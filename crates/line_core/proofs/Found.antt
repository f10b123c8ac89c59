-- what is read from a place of a file on, for the loop over its lines
use Rattle.std.proofs.Common.{Bool, true, ◌≡◌, ℕ, ◌+◌, ◌≤◌, List, [], ◌∷◌, ◌++◌, length, take, drop, position, Option, Some, None, Result, Ok, Err, refl, sym, ap, ◌∙◌, arith, append_assoc, append-nil}
use Rattle.std.specs.List.{slice_split}
use Rattle.std.specs.Option.{option_to_list}
use Rattle.std.proofs.lemmas.List.Splits.{length-slice_split}
use Rattle.line_core.specs.SplitLines.{is_newline, without_return, read_line, read_parts, fault_or_lines, after_lines, IsFaultOf}
use Rattle.line_core.specs.declared.line_list.Line.{Line}
use Rattle.line_core.specs.declared.line_list.LineFault.{LineFault}
use Rattle.line_core.specs.declared.line_list.LineFault.TheVariants.{NotAscii, TooLong, Memory}
use Rattle.line_core.proofs.Parts.{split_at, split_none, length-taken}

-- what the parts from a place of the file on are read as
abbrev pub reads_from : List ℕ → ℕ → ℕ → List (Result (Option Line) LineFault)
reads_from bytes number at = read_parts number at (slice_split is_newline (drop at bytes))

-- the lines from there on, or the first fault
abbrev pub rest_of : List ℕ → ℕ → ℕ → Result (List Line) LineFault
rest_of bytes number at = fault_or_lines (reads_from bytes number at)

more_parts : (number start n : ℕ) (part : List ℕ) (parts : List (List ℕ)) → length parts ≡ n + 1 → read_parts number start (part ∷ parts) ≡ read_line number start (without_return part) ∷ read_parts (number + 1) (start + length part + 1) parts
more_parts number start n part [] e = absurd (omega arith)
more_parts number start n part (next ∷ parts) e = refl

-- the first of the parts that are left, where a newline stands behind it
pub reads_some : (bytes : List ℕ) (number at k : ℕ) → position is_newline (drop at bytes) ≡ Some k → at + k ≤ length bytes → reads_from bytes number at ≡ read_line number at (without_return (take k (drop at bytes))) ∷ reads_from bytes (number + 1) (at + (k + 1))
reads_some bytes number at k e h =
    let next : at + k + 1 ≡ at + (k + 1) = omega arith in
    let after = drop (at + (k + 1)) bytes in
    let line = read_line number at (without_return (take k (drop at bytes))) in
    ap (read_parts number at) (split_at is_newline bytes at k 0 e)
    ∙ more_parts number at _ (take k (drop at bytes)) (slice_split is_newline after) (length-slice_split is_newline after)
    ∙ ap (λ n. line ∷ read_parts (number + 1) (at + n + 1) (slice_split is_newline after)) (length-taken bytes at k h)
    ∙ ap (λ n. line ∷ read_parts (number + 1) n (slice_split is_newline after)) next

pub rest_some : (bytes : List ℕ) (number at k : ℕ) → position is_newline (drop at bytes) ≡ Some k → at + k ≤ length bytes → rest_of bytes number at ≡ fault_or_lines (read_line number at (without_return (take k (drop at bytes))) ∷ reads_from bytes (number + 1) (at + (k + 1)))
rest_some bytes number at k e h = ap fault_or_lines (reads_some bytes number at k e h)

-- the last one
pub reads_none : (bytes : List ℕ) (number at : ℕ) → position is_newline (drop at bytes) ≡ None → reads_from bytes number at ≡ read_line number at (drop at bytes) ∷ []
reads_none bytes number at e = ap (read_parts number at) (split_none is_newline (drop at bytes) e)

pub rest_none : (bytes : List ℕ) (number at : ℕ) → position is_newline (drop at bytes) ≡ None → rest_of bytes number at ≡ fault_or_lines (read_line number at (drop at bytes) ∷ [])
rest_none bytes number at e = ap fault_or_lines (reads_none bytes number at e)

after_after : (front more : List Line) (read : Result (List Line) LineFault) → after_lines front (after_lines more read) ≡ after_lines (front ++ more) read
after_after front more (Ok lines) = ap Ok (sym (append_assoc front more lines))
after_after front more (Err fault) = refl

-- a turn of the loop over the lines
pub lines_turn : (bytes : List ℕ) (found : List Line) (number at k : ℕ) (line : Option Line) → position is_newline (drop at bytes) ≡ Some k → at + k ≤ length bytes → read_line number at (without_return (take k (drop at bytes))) ≡ Ok line → after_lines found (rest_of bytes number at) ≡ after_lines (found ++ option_to_list line) (rest_of bytes (number + 1) (at + (k + 1)))
lines_turn bytes found number at k line e h is =
    ap (after_lines found) (rest_some bytes number at k e h ∙ ap (λ l. fault_or_lines (l ∷ read_parts (number + 1) (at + (k + 1)) (slice_split is_newline (drop (at + (k + 1)) bytes)))) is)
    ∙ after_after found (option_to_list line) (rest_of bytes (number + 1) (at + (k + 1)))

-- a fault in a turn
pub lines_fault : (bytes : List ℕ) (found : List Line) (number at k : ℕ) (fault : LineFault) → position is_newline (drop at bytes) ≡ Some k → at + k ≤ length bytes → read_line number at (without_return (take k (drop at bytes))) ≡ Err fault → after_lines found (rest_of bytes number at) ≡ Err fault
lines_fault bytes found number at k fault e h is =
    ap (after_lines found) (rest_some bytes number at k e h ∙ ap (λ l. fault_or_lines (l ∷ read_parts (number + 1) (at + (k + 1)) (slice_split is_newline (drop (at + (k + 1)) bytes)))) is)

-- the end of the loop
pub lines_end : (bytes : List ℕ) (found : List Line) (number at : ℕ) (line : Option Line) → position is_newline (drop at bytes) ≡ None → read_line number at (drop at bytes) ≡ Ok line → after_lines found (rest_of bytes number at) ≡ Ok (found ++ option_to_list line)
lines_end bytes found number at line e is =
    ap (after_lines found) (rest_none bytes number at e ∙ ap (λ l. fault_or_lines (l ∷ [])) is)
    ∙ ap (λ l. Ok (found ++ l)) (append-nil (option_to_list line))

-- a fault at the end
pub end_fault : (bytes : List ℕ) (found : List Line) (number at : ℕ) (fault : LineFault) → position is_newline (drop at bytes) ≡ None → read_line number at (drop at bytes) ≡ Err fault → after_lines found (rest_of bytes number at) ≡ Err fault
end_fault bytes found number at fault e is = ap (after_lines found) (rest_none bytes number at e ∙ ap (λ l. fault_or_lines (l ∷ [])) is)

-- a fault of a line is that of the file
pub fault_passes : (here whole : Bool) (line : Result (Option Line) LineFault) (lines : Result (List Line) LineFault) (e : LineFault) → IsFaultOf here line e → ((f : LineFault) → line ≡ Err f → lines ≡ Err f) → (here ≡ true → whole ≡ true) → IsFaultOf whole lines e
fault_passes here whole line lines (NotAscii n) is passes wants = passes (NotAscii n) is
fault_passes here whole line lines (TooLong n) is passes wants = passes (TooLong n) is
fault_passes here whole line lines Memory is passes wants = wants is
