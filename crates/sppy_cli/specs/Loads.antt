-- What a load and reading of one file answers.
use Rattle.std.specs.Prelude.{◌≡◌, ◌⊎◌, ℕ, ◌<◌, ◌≤◌, length, List, [], ◌∷◌, Option, Some, None, Result, Ok, Err}
use Rattle.std.specs.FinMap.{get}
use Rattle.io_edge.specs.Shelves.{FileTable}
use Rattle.schedule_lines.specs.declared.schedule.Schedule.{Schedule}
use Rattle.sp_model.specs.declared.program.Options.{Options}
use Rattle.sppy_cli.specs.Causes.{input_at}
use Rattle.sppy_cli.specs.Files.{IsSaidIn, ShowsTurns, max_file_bytes, schedule_file}
use Rattle.sppy_cli.specs.InTurn.{with_names}
use Rattle.sppy_cli.specs.declared.loads.FileFault.{FileFault}
use Rattle.sppy_cli.specs.declared.loads.FileFault.TheVariants.{Wrong, Failed, Memory}
use Rattle.sppy_cli.specs.declared.status.InputFile.{InputFile}
use Rattle.sppy_cli.specs.declared.status.InputKind.{InputKind}
use Rattle.sppy_cli.specs.declared.status.InputKind.TheVariants as kind
use Rattle.sppy_cli.specs.declared.status.Status.{Status}
use Rattle.sppy_cli.specs.declared.status.Status.TheVariants as status

-- a file that is there and too long
abbrev pub IsLong : Option (List ℕ) → Type 0
IsLong None = ⊥
IsLong (Some bytes) = max_file_bytes < length bytes

-- the only fault that is told of a file without reading it: it is too long, which is a fault of the
-- whole
abbrev pub IsLongAt : Option (List ℕ) → ℕ × InputKind → Type 0
IsLongAt file fault = IsLong file × (fault ≡ (0, kind.TooLong))

-- what a load of one file answers, by the file where it is told
abbrev pub LoadsBytes : {A : Type 0} → (A → List ℕ) → Option FileTable → List ℕ → Result A FileFault
    → Type 0
LoadsBytes bytes_of None name result = Unit {0}
LoadsBytes bytes_of (Some table) name (Ok loaded) =
    (get table name ≡ Some (bytes_of loaded)) × (length (bytes_of loaded) ≤ max_file_bytes)
LoadsBytes bytes_of (Some table) name (Err (Wrong line kind)) =
    IsLongAt (get table name) (line, kind)
LoadsBytes bytes_of (Some table) name (Err (Failed faults)) = Unit {0}
LoadsBytes bytes_of (Some table) name (Err Memory) = Unit {0}

-- what a load and reading of one file answers, by what the file says where it is told
abbrev pub Loads : {V X : Type 0} → (Option (List ℕ) → Option (Result V (ℕ × InputKind)))
    → (V → X → Type 0) → Option FileTable → List ℕ → Result X FileFault → Type 0
Loads says shows None name result = Unit {0}
Loads says shows (Some table) name (Ok x) = IsSaidIn shows (says (get table name)) x
Loads says shows (Some table) name (Err (Wrong line kind)) =
    says (get table name) ≡ Some (Err (line, kind))
Loads says shows (Some table) name (Err (Failed faults)) = Unit {0}
Loads says shows (Some table) name (Err Memory) = Unit {0}

-- the same of a schedule; where there is none, the empty one is answered
abbrev pub LoadsSchedule : Option FileTable → Option (List ℕ) → Options
    → Result Schedule FileFault → Type 0
LoadsSchedule files None options (Ok schedule) = schedule.turns ≡ []
LoadsSchedule files None options (Err fault) = ⊥
LoadsSchedule files (Some name) options result =
    Loads (schedule_file options) ShowsTurns files name result

-- the name of the file was loaded, and no other; where memory is refused, maybe none
abbrev pub LoadsNameAtFault : List ℕ → Option (List (List ℕ)) → Option (List (List ℕ)) → FileFault
    → Type 0
LoadsNameAtFault name old new Memory = (new ≡ old) ⊎ (new ≡ with_names old (name ∷ []))
LoadsNameAtFault name old new _ = new ≡ with_names old (name ∷ [])

abbrev pub LoadsName : {X : Type 0} → List ℕ → Option (List (List ℕ)) → Option (List (List ℕ))
    → Result X FileFault → Type 0
LoadsName name old new (Ok x) = new ≡ with_names old (name ∷ [])
LoadsName name old new (Err fault) = LoadsNameAtFault name old new fault

-- nothing was loaded where there is no name
abbrev pub LoadsNameIfAny : {X : Type 0} → Option (List ℕ) → Option (List (List ℕ))
    → Option (List (List ℕ)) → Result X FileFault → Type 0
LoadsNameIfAny None old new result = new ≡ old
LoadsNameIfAny (Some name) old new result = LoadsName name old new result

-- the count of faults that a failed load reports; no other fault of a file reports one
abbrev pub load_fault_of : FileFault → Option ℕ
load_fault_of (Failed faults) = Some faults
load_fault_of _ = None

-- the status of a command that ends by the fault of a file
abbrev pub status_of_file : InputFile → FileFault → Status
status_of_file file (Wrong line kind) = input_at file (line, kind)
status_of_file file (Failed faults) = status.ReadFault faults
status_of_file file Memory = status.Memory
