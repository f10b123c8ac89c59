-- The reader's answer, by the arms of its code.
use Rattle.std.proofs.Common.{◌≡◌, refl, ℕ, ◌+◌, ◌<◌, List, [], ◌∷◌, length, drop, get_or, Option, Result, Ok, Err, ap, sym, ◌∙◌, arith}
use Rattle.std.proofs.lemmas.List.{drop_more}
use Rattle.line_core.specs.SplitLines.{lines_of}
use Rattle.line_core.specs.declared.line_list.Line.{Line}
use Rattle.line_core.specs.declared.line_list.LineFault.{LineFault}
use Rattle.line_core.specs.declared.line_list.LineFault.TheVariants as line_faults
use Rattle.smps_words.proofs.Asking.{lines_ask}
use Rattle.smps_words.specs.Memory.{MayRefuse, AreSome}
use Rattle.smps_words.specs.Outcomes.{judged}
use Rattle.smps_words.specs.Outcomes.Outcome.{Faulty}
use Rattle.smps_words.specs.TextLines.{text_line, text_lines, is_end}
use Rattle.smps_words.specs.declared.core_file.Core.{Core}
use Rattle.smps_words.specs.declared.periods.Periods.{Periods}
use Rattle.stoch_lines.specs.declared.kinds.StochKind.{StochKind}
use Rattle.stoch_lines.specs.declared.kinds.StochFault.{StochFault}
use Rattle.stoch_lines.specs.declared.kinds.StochFault.TheVariants.{At, Memory}
use Rattle.stoch_lines.specs.declared.state.State.{State}
use Rattle.stoch_lines.specs.Before.{Before, next}
use Rattle.stoch_lines.specs.Faults.{line_fault}
use Rattle.stoch_lines.specs.Turns.{Refuses}
use Rattle.stoch_lines.specs.StochOutcome.{answer_for, read_meaning, said_meaning, stepped, stepped_from, stepped_meaning, Fails, Gives}
use Rattle.stoch_lines.proofs.Adding.{stepped_is}

module _ (core : Core) (periods : Periods) where
  -- a fault of a line is that of the file, where the lines before it have none
  pub refused : (bytes : List ℕ) (lines : List Line) (i : ℕ) (line : Line) (before : Before) (fault : StochFault) (same : Type 0) → i < length lines → line ≡ get_or lines i line → stepped_from core periods before (text_lines bytes (drop i lines)) ≡ stepped core periods (text_lines bytes lines) → Refuses fault (line_fault core periods before (text_line bytes line)) (text_line bytes line) same → Fails (AreSome lines) fault (stepped_meaning core periods bytes lines)
  refused bytes lines i line before Memory same lt at rest refuses = omega (arith, lt)
  refused bytes lines i line before (At number kind) same lt at rest refuses =
      let text = text_line bytes line in
      let later = drop (i + 1) lines in
      let one : stepped_from core periods before (text_lines bytes (drop i lines)) ≡ Faulty text kind =
      ap (λ (rest : List Line). stepped_from core periods before (text_lines bytes rest)) (drop_more lines i line lt ∙ ap (λ (l : Line). l ∷ later) (sym at))
      ∙ ap (λ (f : Option StochKind). judged f (is_end text) text (next core periods before text) (stepped_from core periods (next core periods before text) (text_lines bytes later))) refuses.1 in
      ap (answer_for (text_lines bytes lines)) (sym rest ∙ one) ∙ ap (λ (n : ℕ). Err (n, kind)) (sym refuses.0)

  -- the meaning of a file that has lines, by what they come to
  meaning_is : (bytes : List ℕ) (lines : List Line) → lines_of bytes ≡ Ok lines → said_meaning core periods bytes ≡ stepped_meaning core periods bytes lines
  meaning_is bytes lines is = ap (read_meaning core periods bytes) is ∙ ap (answer_for (text_lines bytes lines)) (sym (stepped_is core periods (text_lines bytes lines)))

  -- what the lines come to is what the file means
  pub lines_give : (bytes : List ℕ) (lines : List Line) (result : Result State StochFault) → lines_of bytes ≡ Ok lines → Gives (AreSome lines) result (stepped_meaning core periods bytes lines) → Gives (MayRefuse bytes) result (said_meaning core periods bytes)
  lines_give bytes lines (Ok state) is gives = meaning_is bytes lines is ∙ gives
  lines_give bytes lines (Err Memory) is some = lines_ask bytes lines is some
  lines_give bytes lines (Err (At line kind)) is gives = meaning_is bytes lines is ∙ gives

  -- a file that means something has lines, and asks for memory
  asks_by : (bytes : List ℕ) (found : Result (List Line) LineFault) (b : Before) → lines_of bytes ≡ found → read_meaning core periods bytes found ≡ Ok b → MayRefuse bytes
  asks_by bytes (Ok []) b is means = absurd (cc means)
  asks_by bytes (Ok (line ∷ lines)) b is means = lines_ask bytes (line ∷ lines) is (omega arith)
  asks_by bytes (Err (line_faults.NotAscii line)) b is means = absurd (cc means)
  asks_by bytes (Err (line_faults.TooLong line)) b is means = absurd (cc means)
  asks_by bytes (Err line_faults.Memory) b is means = absurd (cc means)

  pub asks : (bytes : List ℕ) (b : Before) → said_meaning core periods bytes ≡ Ok b → MayRefuse bytes
  asks bytes b means = asks_by bytes (lines_of bytes) b refl means
