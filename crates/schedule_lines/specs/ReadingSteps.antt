-- What the reader keeps while it goes over the words.
use Rattle.std.specs.Prelude.{◌≡◌, ℕ, ◌<◌, ◌≤◌, ◌^◌, List, [], ◌∷◌, ◌++◌, length, Result, Ok, Err}
use Rattle.std.specs.Option.{option_to_list}
use Rattle.std.specs.Result.{result_ok}
use Rattle.schedule_lines.specs.Schedules.{Fails, LineWord, max_sum, steps_in, turn_behind}
use Rattle.schedule_lines.specs.declared.reading.Reading.{Reading}
use Rattle.schedule_lines.specs.declared.schedule.Crew.{Crew}
use Rattle.schedule_lines.specs.declared.schedule.Turn.{Turn}
use Rattle.schedule_lines.specs.declared.schedule_fault.ScheduleFault.{ScheduleFault}
use Rattle.schedule_lines.specs.declared.schedule_fault.ScheduleKind.{ScheduleKind}

-- a number from which on all numbers of a file are alike: more than any count of ranks or spokes
abbrev pub number_cap : ℕ
number_cap = 2 ^ 64

-- behind a word with a fault nothing is read
abbrev pub unless_fault : ℕ → Result Turn ScheduleKind → Result (List Turn) (ℕ × ScheduleKind)
    → Result (List Turn) (ℕ × ScheduleKind)
unless_fault line (Ok turn) later = later
unless_fault line (Err kind) later = Err (line, kind)

-- what words say behind turns: these with the words' turns, or the first fault
abbrev pub said_behind : Crew → List Turn → List LineWord → Result (List Turn) (ℕ × ScheduleKind)
said_behind crew turns [] = Ok turns
said_behind crew turns (word ∷ words) = unless_fault word.line (turn_behind crew turns word.text)
    (said_behind crew
    (turns ++ option_to_list (result_ok (turn_behind crew turns word.text)))
    words)

-- the total is that of the turns, and not too great
pub record IsCounted (reading : Reading) : Type 0 where
  pub total : reading.total ≡ steps_in reading.turns
  pub few : reading.total ≤ max_sum

-- words are read from the first one on: all of them, or up to the first fault; memory is asked for
-- words alone
abbrev pub Reads : Crew → List LineWord → Result Reading ScheduleFault → Type 0
Reads crew words (Ok reading) = said_behind crew [] words ≡ Ok reading.turns
Reads crew words (Err fault) = Fails (0 < length words) fault (said_behind crew [] words)

-- the same of words behind those that were read
abbrev pub ReadsOn : Crew → Reading → List LineWord → Result Unit ScheduleFault → Reading → Type 0
ReadsOn crew old words (Ok done) new = said_behind crew old.turns words ≡ Ok new.turns
ReadsOn crew old words (Err fault) new =
    Fails (0 < length words) fault (said_behind crew old.turns words)
