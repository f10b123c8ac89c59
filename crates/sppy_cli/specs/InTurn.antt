-- The files of a request are loaded in turn: each only after those before it were loaded and have
-- no fault, and the schedule only after the run was made.
use Rattle.std.specs.Prelude.{◌≡◌, ◌⊎◌, List, ℕ, [], ◌∷◌, ◌++◌, Option, Some, None, IfSome, Result, Ok, Err, option_map}
use Rattle.std.specs.FinMap.{get}
use Rattle.std.specs.Option.{option_to_list}
use Rattle.io_edge.specs.Shelves.{FileTable}
use Rattle.run_words.specs.Words.{Request}
use Rattle.smps_words.specs.declared.core_file.Core.{Core}
use Rattle.smps_words.specs.declared.periods.Periods.{Periods}
use Rattle.sp_model.specs.declared.run.Run.{Run}
use Rattle.sppy_cli.specs.Causes.{IsInstanceOf, IsRunOf}
use Rattle.sppy_cli.specs.Files.{ArePeriodsIn, AreRead, IsCoreIn}
use Rattle.sppy_cli.specs.declared.instance.Instance.{Instance}
use Rattle.sppy_cli.specs.declared.instance.Triple.{Triple}
use Rattle.sppy_cli.specs.declared.status.InputFile.{InputFile}
use Rattle.sppy_cli.specs.declared.status.InputFile.TheVariants as file
use Rattle.sppy_cli.specs.declared.status.Status.{Status}
use Rattle.sppy_cli.specs.declared.status.Status.TheVariants as status

-- the names of the calls so far, where they are told, and further ones
abbrev pub with_names : Option (List (List ℕ)) → List (List ℕ) → Option (List (List ℕ))
with_names names more = option_map (λ known. known ++ more) names

-- the names of a request's files up to this one, and it with them; the join comes after three, and
-- before the schedule, which not every request has
abbrev pub names_to : InputFile → Request → List (List ℕ)
names_to file.Core request = request.core ∷ []
names_to file.Time request = request.core ∷ request.time ∷ []
names_to file.Stoch request = request.core ∷ request.time ∷ request.stoch ∷ []
names_to file.Join request = request.core ∷ request.time ∷ request.stoch ∷ []
names_to file.Schedule request =
    request.core ∷ request.time ∷ request.stoch ∷ option_to_list request.schedule

-- the files before this one have no fault, and before the schedule they make a run
abbrev pub AreReadBefore : FileTable → Request → InputFile → Type 0
AreReadBefore table request file.Core = Unit {0}
AreReadBefore table request file.Time = (core : Core) × IsCoreIn (get table request.core) core
AreReadBefore table request file.Stoch =
    (core : Core) × (periods : Periods)
    × IsCoreIn (get table request.core) core
    × ArePeriodsIn core (get table request.time) periods
AreReadBefore table request file.Join = (triple : Triple) × AreRead table request triple
AreReadBefore table request file.Schedule =
    (triple : Triple) × (run : Run) × AreRead table request triple × IsRunOf request triple run

-- the load of this file was the last call: the names up to it were loaded, and, where the files are
-- told, those before it have no fault
abbrev pub LoadsTo : Option FileTable → Request → InputFile → Option (List (List ℕ))
    → Option (List (List ℕ)) → Type 0
LoadsTo files request file old new =
    (new ≡ with_names old (names_to file request))
    × IfSome files (λ table. AreReadBefore table request file)

-- the load of some file of the request was the last call
abbrev pub LoadsToSome : Option FileTable → Request → Option (List (List ℕ))
    → Option (List (List ℕ)) → Type 0
LoadsToSome files request old new = (file : InputFile) × LoadsTo files request file old new

-- all files of the request were loaded, and, where they are told, they have no fault
abbrev pub LoadsAll : Option FileTable → Request → Option (List (List ℕ))
    → Option (List (List ℕ)) → Type 0
LoadsAll files request old new =
    (new ≡ with_names old (names_to file.Schedule request))
    × IfSome files (λ table. (i : Instance) × IsInstanceOf (Some table) request i)

-- which load was the last one, by the status: the faulty file's, the stoch file's where the run
-- would be too wide, some file's after a read fault, some file's or none after want of memory, else
-- all were loaded
abbrev pub LoadsInTurn : Option FileTable → Request → Option (List (List ℕ))
    → Option (List (List ℕ)) → Status → Type 0
LoadsInTurn files request old new (status.Input fault) = LoadsTo files request fault.file old new
LoadsInTurn files request old new (status.Wide reach) = LoadsTo files request file.Join old new
LoadsInTurn files request old new (status.ReadFault faults) = LoadsToSome files request old new
LoadsInTurn files request old new status.Memory = (new ≡ old) ⊎ LoadsToSome files request old new
LoadsInTurn files request old new _ = LoadsAll files request old new

-- the same of a call that reads three files or ends by a status
abbrev pub LoadsThreeInTurn : {X : Type 0} → Option FileTable → Request → Option (List (List ℕ))
    → Option (List (List ℕ)) → Result X Status → Type 0
LoadsThreeInTurn files request old new (Ok triple) = LoadsTo files request file.Join old new
LoadsThreeInTurn files request old new (Err status) = LoadsInTurn files request old new status

-- and of one that makes an instance
abbrev pub LoadsAllInTurn : {X : Type 0} → Option FileTable → Request → Option (List (List ℕ))
    → Option (List (List ℕ)) → Result X Status → Type 0
LoadsAllInTurn files request old new (Ok instance) = LoadsAll files request old new
LoadsAllInTurn files request old new (Err status) = LoadsInTurn files request old new status

-- the loads of a command; none where its words aren't well formed
abbrev pub LoadsNames : Option FileTable → Option Request → Option (List (List ℕ))
    → Option (List (List ℕ)) → Status → Type 0
LoadsNames files None old new status = new ≡ old
LoadsNames files (Some request) old new status = LoadsInTurn files request old new status
