-- What a schedule file means: the turns of its words in order, or its first fault.
use Rattle.std.specs.Prelude.{◌≡◌, ℕ, ◌+◌, ◌<◌, ◌≤◌, ⊤, Bool, false, List, [], map, nat_lt, if◌then◌else◌, Option, Result, Ok, Err}
use Rattle.std.specs.List.{All, flat_map, sum_by}
use Rattle.std.specs.Option.{option_to_list}
use Rattle.std.specs.Result.{result_ok, result_err}
use Rattle.line_core.specs.Fields.{span_text}
use Rattle.line_core.specs.SplitLines.{lines_of}
use Rattle.line_core.specs.declared.line_list.Line.{Line}
use Rattle.line_core.specs.declared.line_list.LineFault.{LineFault}
use Rattle.line_core.specs.declared.line_list.LineFault.TheVariants as lines
use Rattle.smps_words.specs.Outcomes.{Outcome, outcome}
use Rattle.smps_words.specs.Outcomes.Outcome.{Faulty, Ended, Endless}
use Rattle.schedule_lines.specs.TurnWords.{max_count, turn_of}
use Rattle.schedule_lines.specs.declared.schedule.Actor.{Actor}
use Rattle.schedule_lines.specs.declared.schedule.Actor.TheVariants.{Hub, Rank, Spoke}
use Rattle.schedule_lines.specs.declared.schedule.Crew.{Crew}
use Rattle.schedule_lines.specs.declared.schedule.Schedule.{Schedule}
use Rattle.schedule_lines.specs.declared.schedule.Turn.{Turn}
use Rattle.schedule_lines.specs.declared.schedule_fault.ScheduleFault.{ScheduleFault}
use Rattle.schedule_lines.specs.declared.schedule_fault.ScheduleFault.TheVariants.{At, Memory}
use Rattle.schedule_lines.specs.declared.schedule_fault.ScheduleKind.{ScheduleKind}
use Rattle.schedule_lines.specs.declared.schedule_fault.ScheduleKind.TheVariants.{NotAscii, LongLine, Limit}

-- so many ranks and so many spokes
abbrev pub crew_of : ℕ → ℕ → Crew
crew_of ranks spokes = record { ranks = ranks; spokes = spokes }

-- a word with the number of its line
pub record LineWord : Type 0 where
  pub line : ℕ
  pub text : List ℕ

-- the words of lines are their fields, headers and data lines alike
abbrev pub words_of : List ℕ → Line → List LineWord
words_of bytes line =
    map (λ span. record { line = line.number; text = span_text bytes span }) line.fields

-- the words of all lines, in order
abbrev pub words_in : List ℕ → List Line → List LineWord
words_in bytes lines = flat_map (words_of bytes) lines

-- the turns that words say, in order
abbrev pub turns_in : Crew → List LineWord → List Turn
turns_in crew words = flat_map (λ word. option_to_list (result_ok (turn_of crew word.text))) words

-- how many steps turns have together
abbrev pub steps_in : List Turn → ℕ
steps_in turns = sum_by (λ turn. turn.count) turns

-- the greatest number of steps of all turns together
abbrev pub max_sum : ℕ
max_sum = 10000000

-- a turn behind so many steps, which may not take them past the greatest number
abbrev pub limited : ℕ → Result Turn ScheduleKind → Result Turn ScheduleKind
limited before (Ok turn) = if nat_lt max_sum (before + turn.count) then Err Limit else Ok turn
limited before (Err kind) = Err kind

-- the turn of a word behind the turns before it, or its fault
abbrev pub turn_behind : Crew → List Turn → List ℕ → Result Turn ScheduleKind
turn_behind crew turns word = limited (steps_in turns) (turn_of crew word)

-- the fault of a word behind the words before it
abbrev pub fault_behind : Crew → List LineWord → LineWord → Option ScheduleKind
fault_behind crew before word = result_err (turn_behind crew (turns_in crew before) word.text)

-- no word ends a schedule
abbrev pub never : LineWord → Bool
never word = false

-- each word judged by the words before it
abbrev pub word_outcome : Crew → List LineWord → Outcome LineWord ScheduleKind (List LineWord)
word_outcome crew words = outcome (fault_behind crew) never [] words

-- the turns of words that have no fault, or the line and the kind of the first one
abbrev pub turns_told : Crew → List LineWord → Outcome LineWord ScheduleKind (List LineWord)
    → Result (List Turn) (ℕ × ScheduleKind)
turns_told crew words (Faulty word kind) = Err (word.line, kind)
turns_told crew words (Ended before) = Ok (turns_in crew words)
turns_told crew words Endless = Ok (turns_in crew words)

abbrev pub words_meaning : Crew → List LineWord → Result (List Turn) (ℕ × ScheduleKind)
words_meaning crew words = turns_told crew words (word_outcome crew words)

-- the same for what the file is read as; no file is read as want of memory
abbrev pub read_meaning : Crew → List ℕ → Result (List Line) LineFault
    → Result (List Turn) (ℕ × ScheduleKind)
read_meaning crew bytes (Ok found) = words_meaning crew (words_in bytes found)
read_meaning crew bytes (Err (lines.NotAscii line)) = Err (line, NotAscii)
read_meaning crew bytes (Err (lines.TooLong line)) = Err (line, LongLine)
read_meaning crew bytes (Err lines.Memory) = Ok []

-- what the bytes of a schedule file mean beside so many ranks and spokes
abbrev pub schedule_meaning : Crew → List ℕ → Result (List Turn) (ℕ × ScheduleKind)
schedule_meaning crew bytes = read_meaning crew bytes (lines_of bytes)

-- a fault is that of the file, or memory is refused where it is asked for
abbrev pub Fails : Type 0 → ScheduleFault → Result (List Turn) (ℕ × ScheduleKind) → Type 0
Fails asked (At line kind) meaning = meaning ≡ Err (line, kind)
Fails asked Memory meaning = asked

-- the answer is the meaning
abbrev pub Gives : Type 0 → Result Schedule ScheduleFault → Result (List Turn) (ℕ × ScheduleKind)
    → Type 0
Gives asked (Ok schedule) meaning = meaning ≡ Ok schedule.turns
Gives asked (Err fault) meaning = Fails asked fault meaning

-- an actor is there
abbrev pub IsThere : Crew → Actor → Type 0
IsThere crew Hub = ⊤
IsThere crew (Rank rank) = rank < crew.ranks
IsThere crew (Spoke spoke) = spoke < crew.spokes

-- a turn has an actor that is there and at least one step
pub record IsTurnOf (crew : Crew) (turn : Turn) : Type 0 where
  pub there : IsThere crew turn.actor
  pub some : 1 ≤ turn.count
  pub few : turn.count ≤ max_count

-- turns of a crew that have few enough steps together
pub record IsScheduleOf (crew : Crew) (turns : List Turn) : Type 0 where
  pub each : All (IsTurnOf crew) turns
  pub few : steps_in turns ≤ max_sum
