-- The reader's answer, by the arms of its code.
use Rattle.std.proofs.Math.ListN.{length-map}
use Rattle.smps_words.proofs.Asking.{lines_ask}
use Rattle.smps_words.specs.Memory.{MayRefuse}
use Rattle.std.proofs.Common.{◌≡◌, ℕ, ◌+◌, ◌<◌, List, ◌∷◌, length, drop, get_or, Option, Result, Ok, Err, IfOk, IfErr, ap, sym, subst, ◌∙◌, arith, []}
use Rattle.std.proofs.lemmas.List.{drop_more}
use Rattle.line_core.specs.SplitLines.{lines_of}
use Rattle.line_core.specs.declared.line_list.Line.{Line}
use Rattle.smps_words.specs.Outcomes.{Outcome, answer_of, judged}
use Rattle.smps_words.specs.Outcomes.Outcome.{Faulty, Ended}
use Rattle.smps_words.specs.TextLines.{TextLine, last_number, text_line, text_lines, is_end}
use Rattle.smps_words.specs.declared.periods.Periods.{Periods}
use Rattle.smps_time.specs.TimeFile.{CoreNames, Before, line_fault, with_line}
use Rattle.smps_time.specs.TimeAnswers.{PeriodsData, Fails, Gives, data_of, periods_in, read_meaning, time_meaning}
use Rattle.smps_time.specs.Reading.{Reads, Refuses, added, added_from, before_in}
use Rattle.smps_time.specs.declared.time_reading.Reading.{Reading}
use Rattle.smps_time.specs.declared.time_fault.TimeKind.{TimeKind}
use Rattle.smps_time.specs.declared.time_fault.TimeKind.TheVariants.{NoEnd}
use Rattle.smps_time.specs.declared.time_fault.TimeFault.{TimeFault}
use Rattle.smps_time.specs.declared.time_fault.TimeFault.TheVariants.{At, Memory}
use Rattle.smps_time.proofs.Adding.{added_is}

-- the answer for lines, by what they come to
abbrev pub answer_for : List TextLine → Outcome TextLine TimeKind Before → Result PeriodsData (ℕ × TimeKind)
answer_for lines outcome = answer_of periods_in (last_number lines) NoEnd outcome

-- a line that is there, as text
some_text : (bytes : List ℕ) (lines : List Line) → 0 < length lines → 0 < length (text_lines bytes lines)
some_text bytes lines some = subst (λ n. 0 < n) (sym (length-map lines (text_line bytes))) some

-- a fault of a line is that of the file, where the lines before it have none
pub refused : (core : CoreNames) (bytes : List ℕ) (lines : List Line) (i : ℕ) (line : Line) (before : Before) (fault : TimeFault) → i < length lines → line ≡ get_or lines i line → added_from core before (text_lines bytes (drop i lines)) ≡ added core (text_lines bytes lines) → Refuses (text_line bytes line) (line_fault core before (text_line bytes line)) fault → Fails (0 < length (text_lines bytes lines)) fault (answer_for (text_lines bytes lines) (added core (text_lines bytes lines)))
refused core bytes lines i line before Memory lt at rest refuses = some_text bytes lines (omega (arith, lt))
refused core bytes lines i line before (At number kind) lt at rest refuses =
    let text = text_line bytes line in
    let later = drop (i + 1) lines in
    let one : added_from core before (text_lines bytes (drop i lines)) ≡ Faulty text kind =
    ap (λ (rest : List Line). added_from core before (text_lines bytes rest)) (drop_more lines i line lt ∙ ap (λ (l : Line). l ∷ later) (sym at))
    ∙ ap (λ (f : Option TimeKind). judged f (is_end text) text (with_line core before text) (added_from core (with_line core before text) (text_lines bytes later))) refuses.1 in
    ap (answer_for (text_lines bytes lines)) (sym rest ∙ one) ∙ ap (λ (n : ℕ). Err (n, kind)) (sym refuses.0)

-- the meaning of a file that has lines, by what they come to
meaning_is : (core : CoreNames) (bytes : List ℕ) (lines : List Line) → lines_of bytes ≡ Ok lines → time_meaning core bytes ≡ answer_for (text_lines bytes lines) (added core (text_lines bytes lines))
meaning_is core bytes lines is = ap (read_meaning core bytes) is ∙ ap (answer_for (text_lines bytes lines)) (sym (added_is core (text_lines bytes lines)))

fails_as : (some may : Type 0) (fault : TimeFault) (answer meaning : Result PeriodsData (ℕ × TimeKind)) → (some → may) → meaning ≡ answer → Fails some fault answer → Fails may fault meaning
fails_as some may Memory answer meaning asks same fails = asks fails
fails_as some may (At line kind) answer meaning asks same fails = same ∙ fails

-- lines as text are as many as the lines
asked_by : (bytes : List ℕ) (lines : List Line) → lines_of bytes ≡ Ok lines → 0 < length (text_lines bytes lines) → MayRefuse bytes
asked_by bytes lines is some = lines_ask bytes lines is (subst (λ n. 0 < n) (length-map lines (text_line bytes)) some)

-- a fault of the lines is that of the file
pub lines_fail : (core : CoreNames) (bytes : List ℕ) (lines : List Line) (fault : TimeFault) → lines_of bytes ≡ Ok lines → Reads (text_lines bytes lines) (added core (text_lines bytes lines)) (Err fault) → Fails (MayRefuse bytes) fault (time_meaning core bytes)
lines_fail core bytes lines fault is fails = fails_as (0 < length (text_lines bytes lines)) (MayRefuse bytes) fault _ _ (asked_by bytes lines is) (meaning_is core bytes lines is) fails

-- a file that has an end has a line
ended_some : (core : CoreNames) (bytes : List ℕ) (lines : List Line) (before : Before) → added core (text_lines bytes lines) ≡ Ended before → 0 < length lines
ended_some core bytes [] before ended = absurd cc
ended_some core bytes (line ∷ lines) before ended = omega arith

-- what the lines up to the end say is what the file means
pub lines_end : (core : CoreNames) (bytes : List ℕ) (lines : List Line) (reading : Reading) (result : Result Periods TimeFault) → lines_of bytes ≡ Ok lines → Reads (text_lines bytes lines) (added core (text_lines bytes lines)) (Ok reading) → IfOk result (λ periods. data_of periods ≡ periods_in (before_in reading)) → IfErr result (λ fault. fault ≡ Memory) → Gives (MayRefuse bytes) result (time_meaning core bytes)
lines_end core bytes lines reading (Ok periods) is ended ok err = meaning_is core bytes lines is ∙ ap (answer_for (text_lines bytes lines)) ended ∙ ap (λ (d : PeriodsData). Ok d) (sym ok)
lines_end core bytes lines reading (Err fault) is ended ok err = subst (λ (f : TimeFault). Fails (MayRefuse bytes) f (time_meaning core bytes)) (sym err) (lines_ask bytes lines is (ended_some core bytes lines (before_in reading) ended))
