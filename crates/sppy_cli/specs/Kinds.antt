-- The words of files and of kinds of faults, as the status line spells them.
use Rattle.std.specs.Prelude.{ℕ, List, codes}
use Rattle.core_lines.specs.declared.kinds.CoreKind.{CoreKind}
use Rattle.core_lines.specs.declared.kinds.CoreKind.TheVariants as core
use Rattle.smps_time.specs.declared.time_fault.TimeKind.{TimeKind}
use Rattle.smps_time.specs.declared.time_fault.TimeKind.TheVariants as time
use Rattle.schedule_lines.specs.declared.schedule_fault.ScheduleKind.{ScheduleKind}
use Rattle.schedule_lines.specs.declared.schedule_fault.ScheduleKind.TheVariants as schedule
use Rattle.stoch_lines.specs.declared.kinds.StochKind.{StochKind}
use Rattle.stoch_lines.specs.declared.kinds.StochKind.TheVariants as stoch
use Rattle.sppy_cli.specs.declared.status.JoinKind.{JoinKind}
use Rattle.sppy_cli.specs.declared.status.JoinKind.TheVariants as join
use Rattle.sppy_cli.specs.declared.status.InputFile.{InputFile}
use Rattle.sppy_cli.specs.declared.status.InputFile.TheVariants as file
use Rattle.sppy_cli.specs.declared.status.InputKind.{InputKind}
use Rattle.sppy_cli.specs.declared.status.InputKind.TheVariants as kind

-- a file by its part in the command
abbrev pub file_word : InputFile → List ℕ
file_word file.Core = codes "core"
file_word file.Time = codes "time"
file_word file.Stoch = codes "stoch"
file_word file.Join = codes "join"
file_word file.Schedule = codes "schedule"

-- the kinds of a core file
abbrev pub core_word : CoreKind → List ℕ
core_word core.NotAscii = codes "NotAscii"
core_word core.LongLine = codes "LongLine"
core_word core.Section = codes "Section"
core_word core.Sense = codes "Sense"
core_word core.Fields = codes "Fields"
core_word core.Number = codes "Number"
core_word core.TooManyPlaces = codes "TooManyPlaces"
core_word core.TooLarge = codes "TooLarge"
core_word core.UnknownRow = codes "UnknownRow"
core_word core.UnknownColumn = codes "UnknownColumn"
core_word core.Twice = codes "Twice"
core_word core.NoObjective = codes "NoObjective"
core_word core.BadBound = codes "BadBound"
core_word core.Limit = codes "Limit"
core_word core.EmptyBox = codes "EmptyBox"
core_word core.NoEnd = codes "NoEnd"

-- the kinds of a time file
abbrev pub time_word : TimeKind → List ℕ
time_word time.NotAscii = codes "NotAscii"
time_word time.LongLine = codes "LongLine"
time_word time.Section = codes "Section"
time_word time.Fields = codes "Fields"
time_word time.Unknown = codes "Unknown"
time_word time.Twice = codes "Twice"
time_word time.Order = codes "Order"
time_word time.Limit = codes "Limit"
time_word time.NoEnd = codes "NoEnd"

-- the kinds of a stoch file
abbrev pub stoch_word : StochKind → List ℕ
stoch_word stoch.NotAscii = codes "NotAscii"
stoch_word stoch.LongLine = codes "LongLine"
stoch_word stoch.Section = codes "Section"
stoch_word stoch.Mode = codes "Mode"
stoch_word stoch.Fields = codes "Fields"
stoch_word stoch.Number = codes "Number"
stoch_word stoch.TooManyPlaces = codes "TooManyPlaces"
stoch_word stoch.TooLarge = codes "TooLarge"
stoch_word stoch.Unknown = codes "Unknown"
stoch_word stoch.Weight = codes "Weight"
stoch_word stoch.EarlyEntry = codes "EarlyEntry"
stoch_word stoch.Anticipates = codes "Anticipates"
stoch_word stoch.Clash = codes "Clash"
stoch_word stoch.Twice = codes "Twice"
stoch_word stoch.Parent = codes "Parent"
stoch_word stoch.Limit = codes "Limit"
stoch_word stoch.NoEnd = codes "NoEnd"

-- the kinds of the three files together
abbrev pub join_word : JoinKind → List ℕ
join_word join.Anticipates = codes "Anticipates"
join_word join.TooManyScenarios = codes "TooManyScenarios"
join_word join.TooManyCells = codes "TooManyCells"

-- the kinds of a schedule
abbrev pub schedule_word : ScheduleKind → List ℕ
schedule_word schedule.NotAscii = codes "NotAscii"
schedule_word schedule.LongLine = codes "LongLine"
schedule_word schedule.Word = codes "Word"
schedule_word schedule.Actor = codes "Actor"
schedule_word schedule.Limit = codes "Limit"

-- the name of a kind, without its file
abbrev pub kind_word : InputKind → List ℕ
kind_word kind.TooLong = codes "TooLong"
kind_word (kind.Core fault) = core_word fault
kind_word (kind.Time fault) = time_word fault
kind_word (kind.Stoch fault) = stoch_word fault
kind_word (kind.Join fault) = join_word fault
kind_word (kind.Schedule fault) = schedule_word fault
