-- What the files of a request say: their data, or their first fault.
use Rattle.std.specs.Prelude.{◌≡◌, ℕ, ◌+◌, List, [], length, Option, Some, None, Result, Ok, Err, nat_le, if◌then◌else◌}
use Rattle.std.specs.FinMap.{get}
use Rattle.core_lines.specs.Meaning.{meaning}
use Rattle.core_lines.specs.Parts.{Before}
use Rattle.io_edge.specs.Shelves.{FileTable}
use Rattle.run_words.specs.Words.{Request}
use Rattle.schedule_lines.specs.Schedules.{crew_of, schedule_meaning}
use Rattle.schedule_lines.specs.declared.schedule.Schedule.{Schedule}
use Rattle.schedule_lines.specs.declared.schedule.Turn.{Turn}
use Rattle.smps_core.specs.CoreData.{IsCoreOf}
use Rattle.smps_stoch.specs.StochMeaning.{stoch_meaning}
use Rattle.smps_stoch.specs.declared.stoch.Stoch.{Stoch}
use Rattle.smps_time.specs.TimeAnswers.{PeriodsData, data_of, names_of, time_meaning}
use Rattle.smps_words.specs.declared.core_file.Core.{Core}
use Rattle.smps_words.specs.declared.periods.Periods.{Periods}
use Rattle.sp_model.specs.declared.program.Options.{Options}
use Rattle.sppy_cli.specs.declared.instance.Triple.{Triple}
use Rattle.sppy_cli.specs.declared.status.InputKind.{InputKind}
use Rattle.sppy_cli.specs.declared.status.InputKind.TheVariants as kind

-- 64 MB
abbrev pub max_file_bytes : ℕ
max_file_bytes = 67108864

-- a fault with its kind told as the kind of a file
abbrev pub told_as : {X K : Type 0} → (K → InputKind) → Result X (ℕ × K) → Result X (ℕ × InputKind)
told_as kind_of (Ok x) = Ok x
told_as kind_of (Err (line, k)) = Err (line, kind_of k)

-- what a file says by the meaning of its bytes: nothing where it isn't there, and a fault of the
-- whole where it is too long
abbrev pub said_in_file : {X K : Type 0} → (K → InputKind) → (List ℕ → Result X (ℕ × K))
    → Option (List ℕ) → Option (Result X (ℕ × InputKind))
said_in_file kind_of means None = None
said_in_file kind_of means (Some bytes) = Some
    (if nat_le (length bytes) max_file_bytes then told_as kind_of (means bytes)
    else Err (0, kind.TooLong))

-- what the core file says, the time file beside a core, and the stoch file beside both
abbrev pub core_file : Option (List ℕ) → Option (Result Before (ℕ × InputKind))
core_file file = said_in_file kind.Core meaning file

abbrev pub time_file : Core → Option (List ℕ) → Option (Result PeriodsData (ℕ × InputKind))
time_file core file = said_in_file kind.Time (time_meaning (names_of core)) file

abbrev pub stoch_file : Core → Periods → Option (List ℕ) → Option (Result Stoch (ℕ × InputKind))
stoch_file core periods file = said_in_file kind.Stoch (stoch_meaning core periods) file

-- what the schedule says beside the ranks and spokes of a run with these options
abbrev pub schedule_file : Options → Option (List ℕ) → Option (Result (List Turn) (ℕ × InputKind))
schedule_file options file = said_in_file kind.Schedule
    (schedule_meaning (crew_of options.ranks (options.lagrangian + options.xhat))) file

-- a file says data that these show
abbrev pub IsSaidIn : {V X : Type 0} → (V → X → Type 0) → Option (Result V (ℕ × InputKind)) → X
    → Type 0
IsSaidIn {V} shows said x = (v : V) × (said ≡ Some (Ok v)) × shows v x

-- the core of a core file, the periods of a time file, and the data of a stoch file
abbrev pub IsCoreIn : Option (List ℕ) → Core → Type 0
IsCoreIn file core = IsSaidIn IsCoreOf (core_file file) core

abbrev pub ShowsPeriods : PeriodsData → Periods → Type 0
ShowsPeriods v periods = v ≡ data_of periods

abbrev pub ArePeriodsIn : Core → Option (List ℕ) → Periods → Type 0
ArePeriodsIn core file periods = IsSaidIn ShowsPeriods (time_file core file) periods

abbrev pub ShowsStoch : Stoch → Stoch → Type 0
ShowsStoch v stoch = v ≡ stoch

abbrev pub IsStochIn : Core → Periods → Option (List ℕ) → Stoch → Type 0
IsStochIn core periods file stoch = IsSaidIn ShowsStoch (stoch_file core periods file) stoch

-- the three files of a request say these data, each beside those before it
pub record AreRead (table : FileTable) (request : Request) (triple : Triple) : Type 0 where
  pub core_is : IsCoreIn (get table request.core) triple.core
  pub periods_are : ArePeriodsIn triple.core (get table request.time) triple.periods
  pub stoch_is : IsStochIn triple.core triple.periods (get table request.stoch) triple.stoch

-- the schedule that a file says beside the ranks and spokes of a run
abbrev pub ShowsTurns : List Turn → Schedule → Type 0
ShowsTurns turns schedule = turns ≡ schedule.turns

abbrev pub IsScheduleIn : Options → Option (List ℕ) → Schedule → Type 0
IsScheduleIn options file schedule = IsSaidIn ShowsTurns (schedule_file options file) schedule

-- the schedule of a request: what its file says, and no turns where it has no such file
abbrev pub HasSchedule : FileTable → Option (List ℕ) → Options → Schedule → Type 0
HasSchedule table None options schedule = schedule.turns ≡ []
HasSchedule table (Some name) options schedule = IsScheduleIn options (get table name) schedule
