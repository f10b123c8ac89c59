-- What a load and reading of a file answers, from what the load gave and what the bytes mean.
use Rattle.std.proofs.Common.{arith, ◌≡◌, ◌∙◌, ◌≤◌, ◌+◌, ℕ, Bool, true, false, nat_le, List, [], Option, Some, None, Result, Ok, Err, length, refl, sym, ap, subst, if◌then◌else◌}
use Rattle.std.proofs.lemmas.Bool.Decides.{nat_tests}
use Rattle.std.proofs.lemmas.List.Elements.{All-nil}
use Rattle.io_edge.specs.Shelves.{FileTable}
use Rattle.schedule_lines.specs.Schedules.{IsScheduleOf, IsTurnOf, crew_of}
use Rattle.schedule_lines.specs.declared.schedule.Schedule.{Schedule}
use Rattle.sp_model.specs.declared.program.Options.{Options}
use Rattle.sppy_cli.specs.Causes.{IsOfCrew}
use Rattle.sppy_cli.specs.Files.{max_file_bytes, said_in_file, told_as}
use Rattle.sppy_cli.specs.Loads.{IsLongAt, Loads, LoadsBytes}
use Rattle.sppy_cli.specs.declared.loads.FileFault.{FileFault}
use Rattle.sppy_cli.specs.declared.loads.FileFault.TheVariants as load
use Rattle.sppy_cli.specs.declared.status.InputKind.{InputKind}
use Rattle.sppy_cli.specs.declared.status.InputKind.TheVariants as kind

-- a file that isn't too long says what its bytes mean
short_said : {X K : Type 0} (kind_of : K → InputKind) (means : List ℕ → Result X (ℕ × K)) (bytes : List ℕ) → length bytes ≤ max_file_bytes → said_in_file kind_of means (Some bytes) ≡ Some (told_as kind_of (means bytes))
short_said kind_of means bytes short = by_test (nat_le (length bytes) max_file_bytes) (grind (arith, nat_tests))
  where
    by_test : (t : Bool) → t ≡ true → Some (if t then told_as kind_of (means bytes) else Err (0, kind.TooLong)) ≡ Some (told_as kind_of (means bytes))
    by_test true e = refl
    by_test false e = absurd (let x = e in cc)

-- a file that is too long says just that
long_said : {X K : Type 0} (kind_of : K → InputKind) (means : List ℕ → Result X (ℕ × K)) (file : Option (List ℕ)) (fault : ℕ × InputKind) → IsLongAt file fault → said_in_file kind_of means file ≡ Some (Err fault)
long_said kind_of means None fault (never, e) = absurd never
long_said {X} kind_of means (Some bytes) fault (long, e) = by_test (nat_le (length bytes) max_file_bytes) (grind (arith, nat_tests)) ∙ ap (λ (f : ℕ × InputKind). Some (Err f)) (sym e)
  where
    by_test : (t : Bool) → t ≡ false → Some (if t then told_as kind_of (means bytes) else Err (0, kind.TooLong)) ≡ Some (Err (0, kind.TooLong))
    by_test true e = absurd (let x = e in cc)
    by_test false e = refl

-- a file whose bytes mean data
loads_read : {A X K V : Type 0} (kind_of : K → InputKind) (means : List ℕ → Result V (ℕ × K)) (shows : V → X → Type 0) (bytes_of : A → List ℕ) (files : Option FileTable) (name : List ℕ) (loaded : A) (v : V) (x : X) →
    LoadsBytes bytes_of files name (Ok loaded) → means (bytes_of loaded) ≡ Ok v → shows v x → Loads (said_in_file kind_of means) shows files name (Ok x)
loads_read kind_of means shows bytes_of None name loaded v x gives is shown = tt
loads_read kind_of means shows bytes_of (Some table) name loaded v x (there, short) is shown =
    (v, ap (said_in_file kind_of means) there ∙ (short_said kind_of means (bytes_of loaded) short ∙ ap (λ r. Some (told_as kind_of r)) is), shown)

-- a file whose bytes mean a fault
loads_wrong : {A X K V : Type 0} (kind_of : K → InputKind) (means : List ℕ → Result V (ℕ × K)) (shows : V → X → Type 0) (bytes_of : A → List ℕ) (files : Option FileTable) (name : List ℕ) (loaded : A) (line : ℕ) (k : K) →
    LoadsBytes bytes_of files name (Ok loaded) → means (bytes_of loaded) ≡ Err (line, k) → Loads (said_in_file kind_of means) shows files name (Err (load.Wrong line (kind_of k)))
loads_wrong kind_of means shows bytes_of None name loaded line k gives is = tt
loads_wrong kind_of means shows bytes_of (Some table) name loaded line k (there, short) is =
    ap (said_in_file kind_of means) there ∙ (short_said kind_of means (bytes_of loaded) short ∙ ap (λ r. Some (told_as kind_of r)) is)

-- want of memory
loads_memory : {X V : Type 0} (says : Option (List ℕ) → Option (Result V (ℕ × InputKind))) (shows : V → X → Type 0) (files : Option FileTable) (name : List ℕ) → Loads says shows files name (Err load.Memory)
loads_memory says shows None name = tt
loads_memory says shows (Some table) name = tt

-- a file whose load ends by a fault
loads_ended : {A X K V : Type 0} (kind_of : K → InputKind) (means : List ℕ → Result V (ℕ × K)) (shows : V → X → Type 0) (bytes_of : A → List ℕ) (files : Option FileTable) (name : List ℕ) (f : FileFault) →
    LoadsBytes bytes_of files name (Err f) → Loads (said_in_file kind_of means) shows files name (Err f)
loads_ended kind_of means shows bytes_of None name f gives = tt
loads_ended kind_of means shows bytes_of (Some table) name (load.Wrong line kind) long = long_said kind_of means _ (line, kind) long
loads_ended kind_of means shows bytes_of (Some table) name (load.Failed faults) gives = tt
loads_ended kind_of means shows bytes_of (Some table) name load.Memory gives = tt

-- no turns are those of any ranks and spokes
pub none_of_crew : (options : Options) (schedule : Schedule) → schedule.turns ≡ [] → IsOfCrew options schedule
none_of_crew options schedule e =
    let crew = crew_of options.ranks (options.lagrangian + options.xhat) in
    subst (IsScheduleOf crew) (sym e) (record { each = All-nil (IsTurnOf crew); few = omega arith })
