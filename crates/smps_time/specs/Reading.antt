-- What the reader keeps while it goes over the lines
use Rattle.std.specs.Prelude.{◌≡◌, ℕ, ◌+◌, ◌<◌, ◌≤◌, Bool, true, false, List, [], length, slice_index, Option, Some, None, Result, Ok, Err}
use Rattle.std.specs.List.{All}
use Rattle.line_core.specs.declared.line_list.Line.{Line}
use Rattle.smps_words.specs.CoreFacts.{max_columns, max_rows}
use Rattle.smps_words.specs.PeriodFacts.{max_periods}
use Rattle.smps_words.specs.Outcomes.{Outcome, answer_of, folded}
use Rattle.smps_words.specs.Outcomes.Outcome.{Ended}
use Rattle.smps_words.specs.TextLines.{TextLine, last_number, text_lines, text_of, is_end}
use Rattle.smps_words.specs.declared.core_file.Core.{Core}
use Rattle.smps_words.specs.declared.file_line.FileLine.{FileLine}
use Rattle.smps_time.specs.TimeAnswers.{Fails, names_of, periods_in}
use Rattle.smps_time.specs.TimeFile.{CoreNames, Before, before_of, column_named, is_in_order, line_fault, place_named, with_line}
use Rattle.smps_time.specs.declared.time_fault.TimeKind.{TimeKind}
use Rattle.smps_time.specs.declared.time_fault.TimeKind.TheVariants.{NoEnd}
use Rattle.smps_time.specs.declared.time_fault.TimeFault.{TimeFault}
use Rattle.smps_time.specs.declared.time_fault.TimeFault.TheVariants.{At, Memory}
use Rattle.smps_time.specs.declared.time_reading.Reading.{Reading}

-- what the lines so far say
abbrev pub before_in : Reading → Before
before_in reading = record {
  begun = reading.begun;
  opened = reading.opened;
  names = reading.names;
  columns = reading.columns;
  places = reading.places;
}

-- the facts of the periods so far
pub record IsRising (names : List (List ℕ)) (columns places : List ℕ) : Type 0 where
  pub few : length names ≤ max_periods
  pub with_columns : length columns ≡ length names
  pub with_places : length places ≡ length names
  pub first_column : slice_index columns 0 ≡ 0
  pub first_place : slice_index places 0 ≤ 1
  pub columns_rise : (k : ℕ) → k + 1 < length columns
      → slice_index columns k < slice_index columns (k + 1)
  pub places_rise : (k : ℕ) → k + 1 < length places
      → slice_index places k < slice_index places (k + 1)
  pub small_columns : All (λ column. column < max_columns) columns
  pub small_places : All (λ place. place ≤ max_rows) places

abbrev pub Keeps : Reading → Type 0
Keeps reading = IsRising reading.names reading.columns reading.places

-- a line is added, and ends the file or doesn't
abbrev pub GoesTo : CoreNames → Before → TextLine → Before → Bool → Type 0
GoesTo core before line after ended = (ended ≡ is_end line) × (after ≡ with_line core before line)

-- a fault of a line; memory is asked for a period alone, and where the line has no fault
abbrev pub Refuses : TextLine → Option TimeKind → TimeFault → Type 0
Refuses line fault (At number kind) = (number ≡ line.number) × (fault ≡ Some kind)
Refuses line fault Memory = (line.header ≡ false) × (fault ≡ None)

-- a step over a line: it has a fault, or it is added
abbrev pub Steps : CoreNames → Before → TextLine → Result Bool TimeFault → Before → Type 0
Steps core before line (Ok ended) after =
    (line_fault core before line ≡ None) × GoesTo core before line after ended
Steps core before line (Err fault) after = Refuses line (line_fault core before line) fault

-- the same of the reader itself, over a line of the file
abbrev pub StepsOver : Core → FileLine → Reading → Result Bool TimeFault → Reading → Type 0
StepsOver core line old result new =
    Steps (names_of core) (before_in old) (text_of line) result (before_in new)

-- a pair of numbers is the column and the place that a line names
abbrev pub IsPeriodOf : CoreNames → TextLine → ℕ × ℕ → Type 0
IsPeriodOf core line period =
    (column_named core line ≡ Some period.0) × (place_named core line ≡ Some period.1)

-- a period may begin with this column and place, which are those of a core
pub record MayBegin (before : Before) (period : ℕ × ℕ) : Type 0 where
  pub order : is_in_order before period.0 period.1 ≡ true
  pub room : length before.names < max_periods
  pub small_column : period.0 < max_columns
  pub small_place : period.1 ≤ max_rows

-- what lines come to, each judged by what the lines before it have added
abbrev pub added_from : CoreNames → Before → List TextLine → Outcome TextLine TimeKind Before
added_from core before lines = folded (line_fault core) is_end (with_line core) before lines

-- the same from the first line on
abbrev pub added : CoreNames → List TextLine → Outcome TextLine TimeKind Before
added core lines = added_from core (before_of core []) lines

-- what the reader answers: all up to the end, or the first fault; lines ask for memory where there
-- are some
abbrev pub Reads : List TextLine → Outcome TextLine TimeKind Before → Result Reading TimeFault
    → Type 0
Reads lines outcome (Ok reading) = outcome ≡ Ended (before_in reading)
Reads lines outcome (Err fault) =
    Fails (0 < length lines) fault (answer_of periods_in (last_number lines) NoEnd outcome)

-- the same for the lines of the file with these bytes
abbrev pub ReadsLines : Core → List ℕ → List Line → Result Reading TimeFault → Type 0
ReadsLines core bytes lines result =
    Reads (text_lines bytes lines) (added (names_of core) (text_lines bytes lines)) result
