-- What the reader's steps come to is what the lines say.
use Rattle.core_lines.specs.declared.state.State.{State}
use Rattle.line_core.specs.SplitLines.{lines_of}
use Rattle.smps_words.proofs.Asking.{lines_ask}
use Rattle.smps_words.specs.Memory.{MayRefuse, AreSome}
use Rattle.std.proofs.Common.{◌≡◌, refl, sym, ◌∙◌, ap, ℕ, ◌+◌, ◌<◌, ◌≤◌, arith, Bool, List, [], ◌∷◌, length, drop, get_or}
use Rattle.std.specs.Prelude.{Option, Err, Ok, Result}
use Rattle.std.proofs.lemmas.Grind.{common_steps}
use Rattle.std.proofs.lemmas.List.{drop_more}
use Rattle.line_core.specs.declared.line_list.Line.{Line}
use Rattle.smps_words.proofs.FoldLaw.{fold_is}
use Rattle.smps_words.specs.Outcomes.{Outcome, judged, folded, seen_by, answer_of}
use Rattle.smps_words.specs.Outcomes.Outcome.{Faulty, Ended, Endless}
use Rattle.smps_words.specs.TextLines.{TextLine, text_line, text_lines, last_number}
use Rattle.core_lines.proofs.NextLaw.{goes_on}
use Rattle.core_lines.specs.Lines.{before_of, line_fault, is_end_header, next}
use Rattle.core_lines.specs.Meaning.{outcome_of, said_by, said_by_steps, Fails, Gives, meaning, said_by_read}
use Rattle.core_lines.specs.Parts.{Before}
use Rattle.core_lines.specs.Steps.{Refuses}
use Rattle.core_lines.specs.declared.kinds.CoreFault.{CoreFault}
use Rattle.core_lines.specs.declared.kinds.CoreFault.TheVariants as faults
use Rattle.core_lines.specs.declared.kinds.CoreKind.{CoreKind}
use Rattle.core_lines.specs.declared.kinds.CoreKind.TheVariants as kinds

answers_are : (last : ℕ) (kind : CoreKind) (o : Outcome TextLine CoreKind (List TextLine)) → answer_of (λ (b : Before). b) last kind (seen_by before_of o) ≡ answer_of before_of last kind o
answers_are last kind (Faulty line other) = refl
answers_are last kind (Ended before) = refl
answers_are last kind Endless = refl

pub steps_are : (lines : List TextLine) → said_by_steps lines ≡ said_by lines
steps_are lines = ap (answer_of (λ (b : Before). b) (last_number lines) kinds.NoEnd) (fold_is before_of line_fault is_end_header next goes_on lines) ∙ answers_are (last_number lines) kinds.NoEnd (outcome_of lines)

-- the fold from a line on
pub one_on : (bytes : List ℕ) (lines : List Line) (i : ℕ) (line : Line) (b : Before) → i < length lines → line ≡ get_or lines i line → folded line_fault is_end_header next b (text_lines bytes (drop i lines)) ≡ judged (line_fault b (text_line bytes line)) (is_end_header (text_line bytes line)) (text_line bytes line) (next b (text_line bytes line)) (folded line_fault is_end_header next (next b (text_line bytes line)) (text_lines bytes (drop (i + 1) lines)))
one_on bytes lines i line b lt at = ap (λ (l : List Line). folded line_fault is_end_header next b (text_lines bytes l)) (drop_more lines i line lt ∙ ap (λ (l : Line). l ∷ drop (i + 1) lines) (sym at))

-- a line that is refused, among the others
pub refused : (lines : List TextLine) (line : TextLine) (after : Before) (later : Outcome TextLine CoreKind Before) (ends : Bool) (fault : Option CoreKind) (asked : Type 0) (f : CoreFault) → asked → Refuses fault line.number f → folded line_fault is_end_header next (before_of []) lines ≡ judged fault ends line after later → Fails asked f (said_by_steps lines)
refused lines line after later ends fault asked faults.Memory may refuses is = may
refused lines line after later ends fault asked (faults.At number kind) may refuses is =
    ap (answer_of (λ (b : Before). b) (last_number lines) kinds.NoEnd) (is ∙ ap (λ f. judged f ends line after later) refuses.1) ∙ ap (λ (n : ℕ). Err (n, kind)) (sym refuses.0)

none_left : (lines : List Line) (i : ℕ) → length lines ≤ i → drop i lines ≡ []
none_left lines i le = grind (arith, common_steps)

-- a line that is there
pub some_before : (lines : List Line) (i : ℕ) → i < length lines → AreSome lines
some_before lines i h = omega (arith, h)

-- no line is left
pub endless : (bytes : List ℕ) (lines : List Line) (i n : ℕ) (b : Before) → length lines ≤ i → folded line_fault is_end_header next (before_of []) (text_lines bytes lines) ≡ folded line_fault is_end_header next b (text_lines bytes (drop i lines)) → n ≡ last_number (text_lines bytes lines) → said_by_steps (text_lines bytes lines) ≡ Err (n, kinds.NoEnd)
endless bytes lines i n b le is number =
    ap (answer_of (λ (s : Before). s) (last_number (text_lines bytes lines)) kinds.NoEnd) (is ∙ ap (λ (l : List Line). folded line_fault is_end_header next b (text_lines bytes l)) (none_left lines i le))
    ∙ ap (λ (m : ℕ). Err (m, kinds.NoEnd)) (sym number)

-- what the lines of a file come to is what the file says
pub lines_give : (bytes : List ℕ) (lines : List Line) (result : Result State CoreFault) → lines_of bytes ≡ Ok lines → Gives (AreSome lines) result (said_by (text_lines bytes lines)) → Gives (MayRefuse bytes) result (meaning bytes)
lines_give bytes lines (Ok state) is gives = ap (said_by_read bytes) is ∙ gives
lines_give bytes lines (Err faults.Memory) is some = lines_ask bytes lines is some
lines_give bytes lines (Err (faults.At line kind)) is fails = ap (said_by_read bytes) is ∙ fails
