-- What words say behind turns, word by word, is what all words say together.
use Rattle.std.proofs.Common.{◌≡◌, refl, ap, sym, ◌∙◌, ℕ, ◌+◌, Bool, true, false, List, [], ◌∷◌, ◌++◌, append_assoc, if◌then◌else◌}
use Rattle.std.specs.Prelude.{nat_lt, Result, Ok, Err}
use Rattle.std.specs.Option.{option_to_list}
use Rattle.std.specs.Result.{result_ok, result_err}
use Rattle.std.proofs.lemmas.List.{append-nil, flat_map_more}
use Rattle.smps_words.specs.Outcomes.{judged, outcome}
use Rattle.schedule_lines.specs.TurnWords.{turn_of}
use Rattle.schedule_lines.specs.Schedules.{LineWord, fault_behind, limited, max_sum, never, steps_in, turns_told, turn_behind, turns_in, words_meaning}
use Rattle.schedule_lines.specs.ReadingSteps.{said_behind, unless_fault}
use Rattle.schedule_lines.specs.declared.schedule.Crew.{Crew}
use Rattle.schedule_lines.specs.declared.schedule.Turn.{Turn}
use Rattle.schedule_lines.specs.declared.schedule_fault.ScheduleKind.{ScheduleKind}
use Rattle.schedule_lines.specs.declared.schedule_fault.ScheduleKind.TheVariants.{Limit}

goes_on : (line : ℕ) (r : Result Turn ScheduleKind) (one other more : Result (List Turn) (ℕ × ScheduleKind)) (turns : List Turn) → (one ≡ Ok turns → other ≡ more) → unless_fault line r one ≡ Ok turns → unless_fault line r other ≡ more
goes_on line (Ok turn) one other more turns step is = step is
goes_on line (Err kind) one other more turns step is = absurd cc

stops : (line : ℕ) (r : Result Turn ScheduleKind) (one other : Result (List Turn) (ℕ × ScheduleKind)) (fault : ℕ × ScheduleKind) → (one ≡ Err fault → other ≡ Err fault) → unless_fault line r one ≡ Err fault → unless_fault line r other ≡ Err fault
stops line (Ok turn) one other fault step is = step is
stops line (Err kind) one other fault step is = is

-- the turns with those of a word
abbrev grown : Crew → List Turn → LineWord → List Turn
grown crew turns word = turns ++ option_to_list (result_ok (turn_behind crew turns word.text))

-- words that have turns, and then others
pub said_on : (crew : Crew) (turns : List Turn) (words more : List LineWord) (new : List Turn) → said_behind crew turns words ≡ Ok new → said_behind crew turns (words ++ more) ≡ said_behind crew new more
said_on crew turns [] more new is = ap (λ (t : List Turn). said_behind crew t more) cc
said_on crew turns (word ∷ words) more new is =
    goes_on word.line (turn_behind crew turns word.text) (said_behind crew (grown crew turns word) words) (said_behind crew (grown crew turns word) (words ++ more)) (said_behind crew new more) new
    (said_on crew (grown crew turns word) words more new) is

-- words of which one has a fault, and then others
pub said_to : (crew : Crew) (turns : List Turn) (words more : List LineWord) (fault : ℕ × ScheduleKind) → said_behind crew turns words ≡ Err fault → said_behind crew turns (words ++ more) ≡ Err fault
said_to crew turns [] more fault is = absurd cc
said_to crew turns (word ∷ words) more fault is =
    stops word.line (turn_behind crew turns word.text) (said_behind crew (grown crew turns word) words) (said_behind crew (grown crew turns word) (words ++ more)) fault
    (said_to crew (grown crew turns word) words more fault) is

-- a turn that isn't refused for the sum is that of the word
by_sum : (over : Bool) (turn new : Turn) → (if over then Err Limit else Ok turn) ≡ Ok new → turn ≡ new
by_sum true turn new is = absurd cc
by_sum false turn new is = cc

pub unlimited : (before : ℕ) (r : Result Turn ScheduleKind) (turn : Turn) → limited before r ≡ Ok turn → r ≡ Ok turn
unlimited before (Ok turn) new is = ap (λ (t : Turn). Ok t) (by_sum (nat_lt max_sum (before + turn.count)) turn new is)
unlimited before (Err kind) new is = absurd cc

-- one more word with a turn
turns_more : (crew : Crew) (before : List LineWord) (word : LineWord) (turn : Turn) → turn_of crew word.text ≡ Ok turn → turns_in crew before ++ turn ∷ [] ≡ turns_in crew (before ++ word ∷ [])
turns_more crew before word turn is =
    ap (λ (r : Result Turn ScheduleKind). turns_in crew before ++ option_to_list (result_ok r)) (sym is)
    ∙ flat_map_more (λ (w : LineWord). option_to_list (result_ok (turn_of crew w.text))) [] before word

judge : (crew : Crew) (before : List LineWord) (word : LineWord) (rest : List LineWord) (r : Result Turn ScheduleKind) → turn_behind crew (turns_in crew before) word.text ≡ r
    → said_behind crew (turns_in crew (before ++ word ∷ [])) rest ≡ turns_told crew ((before ++ word ∷ []) ++ rest) (outcome (fault_behind crew) never (before ++ word ∷ []) rest)
    → unless_fault word.line r (said_behind crew (turns_in crew before ++ option_to_list (result_ok r)) rest) ≡ turns_told crew (before ++ word ∷ rest) (judged (result_err r) (never word) word (before ++ word ∷ []) (outcome (fault_behind crew) never (before ++ word ∷ []) rest))
judge crew before word rest (Err kind) is later = refl
judge crew before word rest (Ok turn) is later =
    ap (λ (t : List Turn). said_behind crew t rest) (turns_more crew before word turn (unlimited (steps_in (turns_in crew before)) (turn_of crew word.text) turn is))
    ∙ later
    ∙ ap (λ (ws : List LineWord). turns_told crew ws (outcome (fault_behind crew) never (before ++ word ∷ []) rest)) (append_assoc before (word ∷ []) rest)

-- words behind others say what all of them say
told_from : (crew : Crew) (before rest : List LineWord) → said_behind crew (turns_in crew before) rest ≡ turns_told crew (before ++ rest) (outcome (fault_behind crew) never before rest)
told_from crew before [] = ap (λ (ws : List LineWord). Ok (turns_in crew ws)) (sym (append-nil before))
told_from crew before (word ∷ rest) = judge crew before word rest (turn_behind crew (turns_in crew before) word.text) refl (told_from crew (before ++ word ∷ []) rest)

-- from the first word on
pub told_is : (crew : Crew) (words : List LineWord) → said_behind crew [] words ≡ words_meaning crew words
told_is crew words = told_from crew [] words
