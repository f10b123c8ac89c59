-- The instance of a request, and the causes why there is none.
use Rattle.std.specs.Prelude.{◌≡◌, ◌≢◌, ◌⊎◌, ◌<◌, ◌+◌, ℕ, List, length, Option, Some, IfSome, Err, Result}
use Rattle.std.specs.FinMap.{get}
use Rattle.io_edge.specs.Shelves.{FileTable}
use Rattle.join_words.specs.Joining.{IsJoined, IsRefused, source_of}
use Rattle.join_words.specs.Framing.{Source}
use Rattle.join_words.specs.declared.fault.JoinFault.{JoinFault}
use Rattle.join_words.specs.declared.fault.JoinFault.TheVariants as join
use Rattle.run_words.specs.Words.{Request}
use Rattle.schedule_lines.specs.Schedules.{IsScheduleOf, crew_of}
use Rattle.schedule_lines.specs.declared.schedule.Schedule.{Schedule}
use Rattle.smps_words.specs.declared.core_file.Core.{Core}
use Rattle.smps_words.specs.declared.periods.Periods.{Periods}
use Rattle.smps_stoch.specs.StochFacts.{StochFacts}
use Rattle.sppy_cli.specs.Files.{ArePeriodsIn, AreRead, HasSchedule, IsCoreIn, core_file, schedule_file, stoch_file, time_file}
use Rattle.sp_model.specs.declared.program.Options.{Options}
use Rattle.sp_model.specs.declared.run.Run.{Run}
use Rattle.sppy_cli.specs.declared.instance.Triple.{Triple}
use Rattle.sppy_cli.specs.declared.instance.Instance.{Instance}
use Rattle.sppy_cli.specs.declared.status.InputFile.{InputFile}
use Rattle.sppy_cli.specs.declared.status.InputFile.TheVariants as file
use Rattle.sppy_cli.specs.declared.status.InputKind.{InputKind}
use Rattle.sppy_cli.specs.declared.status.InputKind.TheVariants as kind
use Rattle.sppy_cli.specs.declared.status.JoinKind.{JoinKind}
use Rattle.sppy_cli.specs.declared.status.JoinKind.TheVariants.{Anticipates, TooManyScenarios, TooManyCells}
use Rattle.sppy_cli.specs.declared.status.Status.{Status}
use Rattle.sppy_cli.specs.declared.status.Status.TheVariants as status

-- what the data and the options of a request are to the join
abbrev pub joined_of : Request → Triple → Source
joined_of request triple = source_of triple.core triple.periods triple.stoch request.options

-- the data are what the three files say, where these are told
abbrev pub AreReadFrom : Option FileTable → Request → Triple → Type 0
AreReadFrom files request triple = IfSome files (λ table. AreRead table request triple)

-- the data make this run with the options of a request
abbrev pub IsRunOf : Request → Triple → Run → Type 0
IsRunOf request triple run = IsJoined (joined_of request triple) request.options run

-- the schedule is what the request's schedule file says, where this is told
abbrev pub IsScheduleFrom : Option FileTable → Request → Options → Schedule → Type 0
IsScheduleFrom files request options schedule =
    IfSome files (λ table. HasSchedule table request.schedule options schedule)

-- an instance of a request: its data are what the files say, where these are told, and its run is
-- the joined one
abbrev pub IsInstanceOf : Option FileTable → Request → Instance → Type 0
IsInstanceOf files request i =
    AreReadFrom files request i.triple × IsRunOf request i.triple i.run
    × IsScheduleFrom files request i.run.options i.schedule

-- the status of a fault of a file at a line, and of a refusal of the join
abbrev pub input_at : InputFile → ℕ × InputKind → Status
input_at file (line, kind) = status.Input (record { file = file; line = line; kind = kind })

abbrev pub join_at : ℕ → JoinKind → Status
join_at line k = input_at file.Join (line, kind.Join k)

abbrev pub status_of_join : JoinFault → Status
status_of_join (join.Anticipates line) = join_at line Anticipates
status_of_join join.TooManyScenarios = join_at 0 TooManyScenarios
status_of_join join.TooManyCells = join_at 0 TooManyCells
status_of_join (join.Wide reach) = status.Wide reach
status_of_join join.Memory = status.Memory

-- what a file says is a fault, and this is its status
abbrev pub IsFaulty : {V : Type 0} → InputFile → Option (Result V (ℕ × InputKind)) → Status → Type 0
IsFaulty file said status =
    (fault : ℕ × InputKind) × (said ≡ Some (Err fault)) × (status ≡ input_at file fault)

-- the core file has a fault
abbrev pub CoreFails : FileTable → Request → Status → Type 0
CoreFails table request status = IsFaulty file.Core (core_file (get table request.core)) status

-- the time file has one beside the core
abbrev pub TimeFails : FileTable → Request → Status → Type 0
TimeFails table request status =
    (core : Core)
    × IsCoreIn (get table request.core) core
    × IsFaulty file.Time (time_file core (get table request.time)) status

-- the stoch file has one beside both
abbrev pub StochFails : FileTable → Request → Status → Type 0
StochFails table request status =
    (core : Core) × (periods : Periods)
    × IsCoreIn (get table request.core) core
    × ArePeriodsIn core (get table request.time) periods
    × IsFaulty file.Stoch (stoch_file core periods (get table request.stoch)) status

-- the join refuses the data of the three, for another reason than memory
abbrev pub JoinFails : FileTable → Request → Status → Type 0
JoinFails table request status =
    (triple : Triple) × (fault : JoinFault)
    × AreRead table request triple
    × IsRefused (joined_of request triple) request.options fault
    × (fault ≢ join.Memory)
    × (status ≡ status_of_join fault)

-- the schedule has a fault beside the run of the three
abbrev pub ScheduleFails : FileTable → Request → Status → Type 0
ScheduleFails table request status =
    (triple : Triple) × (run : Run) × (name : List ℕ)
    × AreRead table request triple
    × IsRunOf request triple run
    × (request.schedule ≡ Some name)
    × IsFaulty file.Schedule (schedule_file run.options (get table name)) status

-- why a request has no instance: the first of its three files that has a fault, else what the join
-- refuses, else the fault of its schedule
abbrev pub IsCause : FileTable → Request → Status → Type 0
IsCause table request status =
    CoreFails table request status ⊎ TimeFails table request status
    ⊎ StochFails table request status ⊎ JoinFails table request status
    ⊎ ScheduleFails table request status

-- the data keep what their readers answer beside them: the core has a column, and the stoch file's
-- data stand beside core and periods
abbrev pub KeepsFacts : Triple → Type 0
KeepsFacts triple =
    (0 < length triple.core.columns) × StochFacts triple.core triple.periods triple.stoch

-- the turns of a schedule are those of ranks and spokes that are there, and not too many
abbrev pub IsOfCrew : Options → Schedule → Type 0
IsOfCrew options schedule =
    IsScheduleOf (crew_of options.ranks (options.lagrangian + options.xhat)) schedule.turns

-- the same of an instance and its schedule; there are no xhat spokes yet
pub record KeepsAll (i : Instance) : Type 0 where
  pub facts : KeepsFacts i.triple
  pub crew : IsOfCrew i.run.options i.schedule
  pub alone : i.run.options.xhat ≡ 0
