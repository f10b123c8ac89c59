-- The reader's answers: a turn of each loop, its exits, and the answer for a file.
use Rattle.std.proofs.Common.{◌≡◌, ap, sym, ◌∙◌, subst, ℕ, ◌+◌, ◌<◌, List, [], ◌∷◌, ◌++◌, length, map, drop, get_or, arith}
use Rattle.std.specs.Prelude.{Result, Ok, Err}
use Rattle.std.proofs.Math.ListN.{length-map}
use Rattle.std.proofs.lemmas.List.{drop_more}
use Rattle.std.proofs.lemmas.List.Folds.{length-flat_map-take}
use Rattle.line_core.specs.Fields.{span_text}
use Rattle.line_core.specs.SplitLines.{lines_of}
use Rattle.line_core.specs.declared.field_list.Span.{Span}
use Rattle.line_core.specs.declared.line_list.Line.{Line}
use Rattle.smps_words.specs.Memory.{MayRefuse}
use Rattle.smps_words.proofs.Asking.{lines_ask}
use Rattle.schedule_lines.specs.Schedules.{Fails, LineWord, read_meaning, schedule_meaning, words_in, words_of}
use Rattle.schedule_lines.specs.ReadingSteps.{Reads, said_behind}
use Rattle.schedule_lines.specs.declared.schedule.Crew.{Crew}
use Rattle.schedule_lines.specs.declared.schedule.Turn.{Turn}
use Rattle.schedule_lines.specs.declared.schedule_fault.ScheduleFault.{ScheduleFault}
use Rattle.schedule_lines.specs.declared.schedule_fault.ScheduleFault.TheVariants.{At, Memory}
use Rattle.schedule_lines.specs.declared.schedule_fault.ScheduleKind.{ScheduleKind}
use Rattle.schedule_lines.proofs.Telling.{said_on, said_to, told_is}

-- a word of a line, and the words of spans of a line
abbrev a_word : ℕ → List ℕ → LineWord
a_word number text = record { line = number; text = text }

abbrev pub span_words : List ℕ → ℕ → List Span → List LineWord
span_words bytes number spans = map (λ (span : Span). a_word number (span_text bytes span)) spans

-- the first of the words that are left
words_left : (bytes : List ℕ) (number : ℕ) (items spans : List Span) (i : ℕ) (d : Span) (text : List ℕ) → items ≡ spans → i < length items → text ≡ span_text bytes (get_or items i d) → span_words bytes number (drop i spans) ≡ a_word number text ∷ span_words bytes number (drop (i + 1) spans)
words_left bytes number items spans i d text same lt is =
    ap (λ (s : List Span). span_words bytes number (drop i s)) (sym same)
    ∙ ap (span_words bytes number) (drop_more items i d lt)
    ∙ ap (λ (t : List ℕ). a_word number t ∷ span_words bytes number (drop (i + 1) items)) (sym is)
    ∙ ap (λ (s : List Span). a_word number text ∷ span_words bytes number (drop (i + 1) s)) same

-- a turn of the loop over words
pub word_turn : (crew : Crew) (bytes : List ℕ) (number : ℕ) (items spans : List Span) (i : ℕ) (d : Span) (text : List ℕ) (turns new : List Turn) (all : Result (List Turn) (ℕ × ScheduleKind)) → items ≡ spans → i < length items → text ≡ span_text bytes (get_or items i d) → said_behind crew turns (a_word number text ∷ []) ≡ Ok new → said_behind crew turns (span_words bytes number (drop i spans)) ≡ all → said_behind crew new (span_words bytes number (drop (i + 1) spans)) ≡ all
word_turn crew bytes number items spans i d text turns new all same lt is said rest =
    sym (said_on crew turns (a_word number text ∷ []) (span_words bytes number (drop (i + 1) spans)) new said)
    ∙ ap (said_behind crew turns) (sym (words_left bytes number items spans i d text same lt is)) ∙ rest

-- a fault in a turn is that of all words
fault_of : (asked may : Type 0) (crew : Crew) (turns : List Turn) (words more : List LineWord) (fault : ScheduleFault) (all : Result (List Turn) (ℕ × ScheduleKind)) → (asked → may) → Fails asked fault (said_behind crew turns words) → said_behind crew turns (words ++ more) ≡ all → Fails may fault all
fault_of asked may crew turns words more Memory all asks fails rest = asks fails
fault_of asked may crew turns words more (At line kind) all asks fails rest = sym rest ∙ said_to crew turns words more (line, kind) fails

pub word_fault : (crew : Crew) (bytes : List ℕ) (number : ℕ) (items spans : List Span) (i : ℕ) (d : Span) (text : List ℕ) (turns : List Turn) (fault : ScheduleFault) (all : Result (List Turn) (ℕ × ScheduleKind)) → items ≡ spans → i < length items → text ≡ span_text bytes (get_or items i d) → Fails (0 < length (a_word number text ∷ [])) fault (said_behind crew turns (a_word number text ∷ [])) → said_behind crew turns (span_words bytes number (drop i spans)) ≡ all → Fails (0 < length (span_words bytes number spans)) fault all
word_fault crew bytes number items spans i d text turns fault all same lt is fails rest =
    fault_of (0 < length (a_word number text ∷ [])) (0 < length (span_words bytes number spans)) crew turns (a_word number text ∷ []) (span_words bytes number (drop (i + 1) spans)) fault all
    (λ asked. subst (λ n. 0 < n) (sym (length-map spans (λ (s : Span). a_word number (span_text bytes s)))) (omega (arith, lt, ap length same)))
    fails (ap (said_behind crew turns) (sym (words_left bytes number items spans i d text same lt is)) ∙ rest)

-- the words of the first line that is left
lines_left : (bytes : List ℕ) (lines : List Line) (i : ℕ) (line : Line) → i < length lines → line ≡ get_or lines i line → words_in bytes (drop i lines) ≡ words_of bytes line ++ words_in bytes (drop (i + 1) lines)
lines_left bytes lines i line lt at = ap (words_in bytes) (drop_more lines i line lt ∙ ap (λ (l : Line). l ∷ drop (i + 1) lines) (sym at))

-- a turn of the loop over lines
pub line_turn : (crew : Crew) (bytes : List ℕ) (lines : List Line) (i : ℕ) (line : Line) (turns new : List Turn) (all : Result (List Turn) (ℕ × ScheduleKind)) → i < length lines → line ≡ get_or lines i line → said_behind crew turns (words_of bytes line) ≡ Ok new → said_behind crew turns (words_in bytes (drop i lines)) ≡ all → said_behind crew new (words_in bytes (drop (i + 1) lines)) ≡ all
line_turn crew bytes lines i line turns new all lt at is rest =
    sym (said_on crew turns (words_of bytes line) (words_in bytes (drop (i + 1) lines)) new is)
    ∙ ap (said_behind crew turns) (sym (lines_left bytes lines i line lt at)) ∙ rest

-- a word of a line is a word of the file
some_word : (bytes : List ℕ) (lines : List Line) (i : ℕ) (line : Line) → i < length lines → line ≡ get_or lines i line → 0 < length (words_of bytes line) → 0 < length (words_in bytes lines)
some_word bytes lines i line lt at some =
    let long = length-flat_map-take (words_of bytes) lines i line lt in
    let same : length (words_of bytes line) ≡ length (words_of bytes (get_or lines i line)) = ap (λ (l : Line). length (words_of bytes l)) at in
    omega (arith, long, same, some)

pub line_fault : (crew : Crew) (bytes : List ℕ) (lines : List Line) (i : ℕ) (line : Line) (turns : List Turn) (fault : ScheduleFault) (all : Result (List Turn) (ℕ × ScheduleKind)) → i < length lines → line ≡ get_or lines i line → Fails (0 < length (words_of bytes line)) fault (said_behind crew turns (words_of bytes line)) → said_behind crew turns (words_in bytes (drop i lines)) ≡ all → Fails (0 < length (words_in bytes lines)) fault all
line_fault crew bytes lines i line turns fault all lt at fails rest =
    fault_of (0 < length (words_of bytes line)) (0 < length (words_in bytes lines)) crew turns (words_of bytes line) (words_in bytes (drop (i + 1) lines)) fault all
    (some_word bytes lines i line lt at) fails (ap (said_behind crew turns) (sym (lines_left bytes lines i line lt at)) ∙ rest)

-- the meaning of a file that has lines
meaning_is : (crew : Crew) (bytes : List ℕ) (lines : List Line) → lines_of bytes ≡ Ok lines → schedule_meaning crew bytes ≡ said_behind crew [] (words_in bytes lines)
meaning_is crew bytes lines is = ap (read_meaning crew bytes) is ∙ sym (told_is crew (words_in bytes lines))

-- a file with words has a line
asked_by : (bytes : List ℕ) (lines : List Line) → lines_of bytes ≡ Ok lines → 0 < length (words_in bytes lines) → MayRefuse bytes
asked_by bytes [] is some = absurd (omega (arith, some))
asked_by bytes (line ∷ lines) is some = lines_ask bytes (line ∷ lines) is (omega arith)

fails_as : (some may : Type 0) (fault : ScheduleFault) (answer meaning : Result (List Turn) (ℕ × ScheduleKind)) → (some → may) → meaning ≡ answer → Fails some fault answer → Fails may fault meaning
fails_as some may Memory answer meaning asks same fails = asks fails
fails_as some may (At line kind) answer meaning asks same fails = same ∙ fails

-- a fault of the words is that of the file
pub file_fault : (crew : Crew) (bytes : List ℕ) (lines : List Line) (fault : ScheduleFault) → lines_of bytes ≡ Ok lines → Reads crew (words_in bytes lines) (Err fault) → Fails (MayRefuse bytes) fault (schedule_meaning crew bytes)
file_fault crew bytes lines fault is fails = fails_as (0 < length (words_in bytes lines)) (MayRefuse bytes) fault (said_behind crew [] (words_in bytes lines)) (schedule_meaning crew bytes) (asked_by bytes lines is) (meaning_is crew bytes lines is) fails

-- the turns of the words are what the file means
pub file_turns : (crew : Crew) (bytes : List ℕ) (lines : List Line) (turns : List Turn) → lines_of bytes ≡ Ok lines → said_behind crew [] (words_in bytes lines) ≡ Ok turns → schedule_meaning crew bytes ≡ Ok turns
file_turns crew bytes lines turns is said = meaning_is crew bytes lines is ∙ said
