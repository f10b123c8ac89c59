-- What reading a time file answers.
use Rattle.std.specs.Prelude.{◌≡◌, ℕ, ◌-◌, List, [], map, Result, Ok, Err}
use Rattle.line_core.specs.SplitLines.{lines_of}
use Rattle.line_core.specs.declared.line_list.Line.{Line}
use Rattle.line_core.specs.declared.line_list.LineFault.{LineFault}
use Rattle.line_core.specs.declared.line_list.LineFault.TheVariants as lines
use Rattle.smps_words.specs.Outcomes.{Outcome, answer_of, outcome, seen_by}
use Rattle.smps_words.specs.TextLines.{TextLine, last_number, text_lines, is_end}
use Rattle.smps_words.specs.declared.core_file.Core.{Core}
use Rattle.smps_words.specs.declared.periods.Periods.{Periods}
use Rattle.smps_time.specs.TimeFile.{CoreNames, Before, before_of, fault_after}
use Rattle.smps_time.specs.declared.time_fault.TimeKind.{TimeKind}
use Rattle.smps_time.specs.declared.time_fault.TimeKind.TheVariants.{NotAscii, LongLine, NoEnd}
use Rattle.smps_time.specs.declared.time_fault.TimeFault.{TimeFault}
use Rattle.smps_time.specs.declared.time_fault.TimeFault.TheVariants.{At, Memory}

-- the names of a core
abbrev pub names_of : Core → CoreNames
names_of core = record {
  objective = core.objective;
  rows = core.row_names;
  columns = core.column_names;
}

-- the data of periods, without their facts
pub record PeriodsData : Type 0 where
  pub names : List (List ℕ)
  pub columns : List ℕ
  pub rows : List ℕ

abbrev pub data_of : Periods → PeriodsData
data_of periods = record { names = periods.names; columns = periods.columns; rows = periods.rows }

-- the first constraint row of each place: that of the objective is row 0
abbrev pub rows_at : List ℕ → List ℕ
rows_at places = map (λ place. place - 1) places

-- the periods that lines name
abbrev pub periods_in : Before → PeriodsData
periods_in before = record {
  names = before.names;
  columns = before.columns;
  rows = rows_at before.places;
}

-- each line judged by the lines before it
abbrev pub time_outcome : CoreNames → List TextLine → Outcome TextLine TimeKind (List TextLine)
time_outcome core lines = outcome (fault_after core) is_end [] lines

-- what the lines of a time file mean: its periods, or the number and the kind of its first fault
abbrev pub lines_meaning : CoreNames → List TextLine → Result PeriodsData (ℕ × TimeKind)
lines_meaning core lines = answer_of periods_in (last_number lines) NoEnd
    (seen_by (before_of core) (time_outcome core lines))

-- the same for what the file is read as; no file is read as want of memory
abbrev pub read_meaning : CoreNames → List ℕ → Result (List Line) LineFault
    → Result PeriodsData (ℕ × TimeKind)
read_meaning core bytes (Ok found) = lines_meaning core (text_lines bytes found)
read_meaning core bytes (Err (lines.NotAscii line)) = Err (line, NotAscii)
read_meaning core bytes (Err (lines.TooLong line)) = Err (line, LongLine)
read_meaning core bytes (Err lines.Memory) = Err (0, NoEnd)

-- what the bytes of a time file mean beside a core
abbrev pub time_meaning : CoreNames → List ℕ → Result PeriodsData (ℕ × TimeKind)
time_meaning core bytes = read_meaning core bytes (lines_of bytes)

-- a fault is that of the file, or memory is refused where it is asked for
abbrev pub Fails : Type 0 → TimeFault → Result PeriodsData (ℕ × TimeKind) → Type 0
Fails asked (At line kind) meaning = meaning ≡ Err (line, kind)
Fails asked Memory meaning = asked

-- the answer is the meaning
abbrev pub Gives : Type 0 → Result Periods TimeFault → Result PeriodsData (ℕ × TimeKind) → Type 0
Gives asked (Ok periods) meaning = meaning ≡ Ok (data_of periods)
Gives asked (Err fault) meaning = Fails asked fault meaning
