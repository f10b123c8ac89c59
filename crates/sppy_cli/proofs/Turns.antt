-- The files are loaded in turn: what the loads so far and the end of the next one give.
use Rattle.std.proofs.Common.{◌≡◌, ◌⊎◌, inl, inr, List, ℕ, [], ◌∷◌, ◌++◌, Option, Some, None, Ok, Err, refl, ◌∙◌, sym, ap, subst, append_assoc}
use Rattle.std.specs.Prelude.{IfSome}
use Rattle.std.specs.Option.{option_to_list}
use Rattle.io_edge.specs.Shelves.{FileTable}
use Rattle.join_words.specs.Joining.{IsRefused}
use Rattle.join_words.specs.declared.fault.JoinFault.{JoinFault}
use Rattle.join_words.specs.declared.fault.JoinFault.TheVariants as join
use Rattle.run_words.specs.Words.{Request}
use Rattle.schedule_lines.specs.declared.schedule.Schedule.{Schedule}
use Rattle.smps_core.specs.CoreData.{IsCoreOf}
use Rattle.smps_stoch.specs.declared.stoch.Stoch.{Stoch}
use Rattle.smps_words.specs.declared.core_file.Core.{Core}
use Rattle.smps_words.specs.declared.periods.Periods.{Periods}
use Rattle.sp_model.specs.declared.program.Options.{Options}
use Rattle.sp_model.specs.declared.run.Run.{Run}
use Rattle.sppy_cli.specs.Causes.{AreReadFrom, IsInstanceOf, IsRunOf, joined_of, status_of_join}
use Rattle.sppy_cli.specs.Desk.{HasNoInstance, MakesRun}
use Rattle.sppy_cli.specs.Files.{HasSchedule, ShowsPeriods, ShowsStoch, core_file, stoch_file, time_file}
use Rattle.sppy_cli.specs.InTurn.{AreReadBefore, LoadsAll, LoadsInTurn, LoadsTo, LoadsToSome, names_to, with_names}
use Rattle.sppy_cli.specs.Loads.{Loads, LoadsNameAtFault, LoadsNameIfAny, LoadsSchedule, load_fault_of, status_of_file}
use Rattle.sppy_cli.specs.Statuses.{read_fault_of}
use Rattle.sppy_cli.specs.declared.instance.Instance.{Instance}
use Rattle.sppy_cli.specs.declared.instance.Triple.{Triple}
use Rattle.sppy_cli.specs.declared.loads.FileFault.{FileFault}
use Rattle.sppy_cli.specs.declared.loads.FileFault.TheVariants as load
use Rattle.sppy_cli.specs.declared.status.InputFile.{InputFile}
use Rattle.sppy_cli.specs.declared.status.InputFile.TheVariants as file
use Rattle.sppy_cli.specs.declared.status.Status.{Status}

abbrev pub Names : Type 0
Names = Option (List (List ℕ))

with_names-more : (old : Names) (first second : List (List ℕ)) → with_names (with_names old first) second ≡ with_names old (first ++ second)
with_names-more None first second = refl
with_names-more (Some known) first second = ap Some (append_assoc known first second)

-- the names of further loads behind those so far
names_then : (old mid new : Names) (first second : List (List ℕ)) → mid ≡ with_names old first → new ≡ with_names mid second → new ≡ with_names old (first ++ second)
names_then old mid new first second e f = f ∙ (ap (λ known. with_names known second) e ∙ with_names-more old first second)

-- what a load did where the reading of its bytes was refused
refused_after : (name : List ℕ) (old new : Names) (f : FileFault) → new ≡ with_names old (name ∷ []) → LoadsNameAtFault name old new f
refused_after name old new (load.Wrong line kind) e = e
refused_after name old new (load.Failed faults) e = e
refused_after name old new load.Memory e = inr e

-- what the core file, the time file and the stoch file answered
abbrev pub CoreLoads : Option FileTable → Request → Core → Type 0
CoreLoads files request core = Loads core_file IsCoreOf files request.core (Ok core)

abbrev pub TimeLoads : Option FileTable → Request → Core → Periods → Type 0
TimeLoads files request core periods = Loads (time_file core) ShowsPeriods files request.time (Ok periods)

abbrev pub StochLoads : Option FileTable → Request → Core → Periods → Stoch → Type 0
StochLoads files request core periods stoch = Loads (stoch_file core periods) ShowsStoch files request.stoch (Ok stoch)

-- the files before one have no fault
none_before : (files : Option FileTable) (request : Request) → IfSome files (λ table. AreReadBefore table request file.Core)
none_before None request = tt
none_before (Some table) request = tt

core_before : (files : Option FileTable) (request : Request) (core : Core) → CoreLoads files request core → IfSome files (λ table. AreReadBefore table request file.Time)
core_before None request core said = tt
core_before (Some table) request core said = (core, said)

both_before : (files : Option FileTable) (request : Request) (core : Core) (periods : Periods) → CoreLoads files request core → TimeLoads files request core periods → IfSome files (λ table. AreReadBefore table request file.Stoch)
both_before None request core periods said also = tt
both_before (Some table) request core periods said also = (core, periods, said, also)

all_before : (files : Option FileTable) (request : Request) (triple : Triple) → AreReadFrom files request triple → IfSome files (λ table. AreReadBefore table request file.Join)
all_before None request triple read = tt
all_before (Some table) request triple read = (triple, read)

-- the data of three files
pub all_read : (files : Option FileTable) (request : Request) (triple : Triple) → CoreLoads files request triple.core → TimeLoads files request triple.core triple.periods → StochLoads files request triple.core triple.periods triple.stoch → AreReadFrom files request triple
all_read None request triple core periods stoch = tt
all_read (Some table) request triple core periods stoch = record { core_is = core; periods_are = periods; stoch_is = stoch }

-- the load of the core, of the time file and of the stoch file was the last one
pub core_loaded : (files : Option FileTable) (request : Request) (old new : Names) → new ≡ with_names old (request.core ∷ []) → LoadsTo files request file.Core old new
core_loaded files request old new e = (e, none_before files request)

pub time_loaded : (files : Option FileTable) (request : Request) (core : Core) (old mid new : Names) → mid ≡ with_names old (request.core ∷ []) → CoreLoads files request core → new ≡ with_names mid (request.time ∷ []) → LoadsTo files request file.Time old new
time_loaded files request core old mid new e said f =
    (names_then old mid new (request.core ∷ []) (request.time ∷ []) e f, core_before files request core said)

three_names : (request : Request) (old first mid new : Names) → first ≡ with_names old (request.core ∷ []) → mid ≡ with_names first (request.time ∷ []) → new ≡ with_names mid (request.stoch ∷ []) → new ≡ with_names old (request.core ∷ request.time ∷ request.stoch ∷ [])
three_names request old first mid new d e f = names_then old mid new (request.core ∷ request.time ∷ []) (request.stoch ∷ []) (names_then old first mid (request.core ∷ []) (request.time ∷ []) d e) f

pub stoch_loaded : (files : Option FileTable) (request : Request) (core : Core) (periods : Periods) (old first mid new : Names) → first ≡ with_names old (request.core ∷ []) → mid ≡ with_names first (request.time ∷ []) → CoreLoads files request core → TimeLoads files request core periods → new ≡ with_names mid (request.stoch ∷ []) → LoadsTo files request file.Stoch old new
stoch_loaded files request core periods old first mid new d e said also f = (three_names request old first mid new d e f, both_before files request core periods said also)

-- all three files were loaded
pub all_loaded : (files : Option FileTable) (request : Request) (triple : Triple) (old first mid new : Names) → first ≡ with_names old (request.core ∷ []) → mid ≡ with_names first (request.time ∷ []) → AreReadFrom files request triple → new ≡ with_names mid (request.stoch ∷ []) → LoadsTo files request file.Join old new
all_loaded files request triple old first mid new d e read f = (three_names request old first mid new d e f, all_before files request triple read)

-- three files were loaded and make a run, before the schedule
run_before : (files : Option FileTable) (request : Request) (triple : Triple) (run : Run) → AreReadFrom files request triple → IsRunOf request triple run → IfSome files (λ table. AreReadBefore table request file.Schedule)
run_before None request triple run read joined = tt
run_before (Some table) request triple run read joined = (triple, run, read, joined)

-- the schedule of a request
schedule_said : (files : Option FileTable) (name : Option (List ℕ)) (options : Options) (schedule : Schedule) → LoadsSchedule files name options (Ok schedule) → IfSome files (λ table. HasSchedule table name options schedule)
schedule_said None name options schedule said = tt
schedule_said (Some table) None options schedule none = none
schedule_said (Some table) (Some name) options schedule said = said

-- the instance of a request
pub instance_is : (files : Option FileTable) (request : Request) (i : Instance) → AreReadFrom files request i.triple → IsRunOf request i.triple i.run → LoadsSchedule files request.schedule i.run.options (Ok i.schedule) → IsInstanceOf files request i
instance_is files request i read joined said = (read, joined, schedule_said files request.schedule i.run.options i.schedule said)

-- three names and that of the schedule, if there is one
four_names : {X : Type 0} (name : Option (List ℕ)) (core time stoch : List ℕ) (old mid new : Names) (x : X) → mid ≡ with_names old (core ∷ time ∷ stoch ∷ []) → LoadsNameIfAny name mid new (Ok x) → new ≡ with_names old (core ∷ time ∷ stoch ∷ option_to_list name)
four_names None core time stoch old mid new x e f = f ∙ e
four_names (Some name) core time stoch old mid new x e f = names_then old mid new (core ∷ time ∷ stoch ∷ []) (name ∷ []) e f

-- all files of a request were loaded
pub every_file_loaded : (files : Option FileTable) (request : Request) (i : Instance) (old mid new : Names) → LoadsTo files request file.Join old mid → LoadsNameIfAny request.schedule mid new (Ok i.schedule) → IsInstanceOf files request i → LoadsAll files request old new
every_file_loaded files request i old mid new (e, before) f is = (four_names request.schedule request.core request.time request.stoch old mid new i.schedule e f, there files is)
  where
    there : (files : Option FileTable) → IsInstanceOf files request i → IfSome files (λ table. (i : Instance) × IsInstanceOf (Some table) request i)
    there None is = tt
    there (Some table) is = (i, is)

-- the last of all files was the schedule's, or what is before it
pub all_to_some : (files : Option FileTable) (request : Request) (old new : Names) → LoadsAll files request old new → LoadsToSome files request old new
all_to_some None request old new (e, u) = (file.Schedule, (e, tt))
all_to_some (Some table) request old new (e, (i, (read, joined, has))) = (file.Schedule, (e, (i.triple, i.run, read, joined)))

-- how the loads end at a file that fails: what was loaded before, and what its load would add
pub turn_ends : (files : Option FileTable) (request : Request) (at : InputFile) (name : List ℕ) (old mid new : Names) (f : FileFault) →
    (mid ≡ old) ⊎ LoadsToSome files request old mid → (new ≡ with_names mid (name ∷ []) → LoadsTo files request at old new) → LoadsNameAtFault name mid new f → LoadsInTurn files request old new (status_of_file at f)
turn_ends files request at name old mid new (load.Wrong line kind) before loaded e = loaded e
turn_ends files request at name old mid new (load.Failed faults) before loaded e = (at, loaded e)
turn_ends files request at name old mid new load.Memory before loaded (inl e) = subst (λ n. (n ≡ old) ⊎ LoadsToSome files request old n) (sym e) before
turn_ends files request at name old mid new load.Memory before loaded (inr e) = inr (at, loaded e)

-- how the loads end at a schedule that fails
pub schedule_ends : (files : Option FileTable) (request : Request) (triple : Triple) (run : Run) (old mid new : Names) (f : FileFault) →
    LoadsTo files request file.Join old mid → AreReadFrom files request triple → IsRunOf request triple run → LoadsSchedule files request.schedule run.options (Err f) → LoadsNameIfAny {X = Schedule} request.schedule mid new (Err f) → LoadsInTurn files request old new (status_of_file file.Schedule f)
schedule_ends files request triple run old mid new f loaded read joined = by_name request.schedule refl
  where
    by_name : (name : Option (List ℕ)) → request.schedule ≡ name → LoadsSchedule files name run.options (Err f) → LoadsNameIfAny {X = Schedule} name mid new (Err f) → LoadsInTurn files request old new (status_of_file file.Schedule f)
    by_name None e never more = absurd never
    by_name (Some name) e said more =
        let four : new ≡ with_names mid (name ∷ []) → new ≡ with_names old (names_to file.Schedule request) = λ g. names_then old mid new (request.core ∷ request.time ∷ request.stoch ∷ []) (name ∷ []) loaded.0 g
        ∙ ap (λ last. with_names old (request.core ∷ request.time ∷ request.stoch ∷ option_to_list last)) (sym e) in
        turn_ends files request file.Schedule name old mid new f (inr (file.Join, loaded)) (λ g. (four g, run_before files request triple run read joined)) more

-- how the loads end at the join
pub join_ends : (files : Option FileTable) (request : Request) (old new : Names) (f : JoinFault) → LoadsTo files request file.Join old new → LoadsInTurn files request old new (status_of_join f)
join_ends files request old new (join.Anticipates line) loaded = loaded
join_ends files request old new join.TooManyScenarios loaded = loaded
join_ends files request old new join.TooManyCells loaded = loaded
join_ends files request old new (join.Wide reach) loaded = loaded
join_ends files request old new join.Memory loaded = inr (file.Join, loaded)

-- the loads end at some status
pub turn_is : (files : Option FileTable) (request : Request) (old new : Names) (s t : Status) → s ≡ t → LoadsInTurn files request old new t → LoadsInTurn files request old new s
turn_is files request old new s t is turn = subst (LoadsInTurn files request old new) (sym is) turn

-- why there is no run, where a file fails
no_core : (files : Option FileTable) (request : Request) (f : FileFault) → Loads core_file IsCoreOf files request.core (Err f) → HasNoInstance files request (status_of_file file.Core f)
no_core None request (load.Wrong line kind) said = tt
no_core None request (load.Failed faults) said = tt
no_core None request load.Memory said = tt
no_core (Some table) request (load.Wrong line kind) said = inl ((line, kind), said, refl)
no_core (Some table) request (load.Failed faults) said = tt
no_core (Some table) request load.Memory said = tt

pub no_time : (files : Option FileTable) (request : Request) (core : Core) (f : FileFault) → CoreLoads files request core → Loads (time_file core) ShowsPeriods files request.time (Err f) → HasNoInstance files request (status_of_file file.Time f)
no_time None request core (load.Wrong line kind) said also = tt
no_time None request core (load.Failed faults) said also = tt
no_time None request core load.Memory said also = tt
no_time (Some table) request core (load.Wrong line kind) said also = inr (inl (core, said, ((line, kind), also, refl)))
no_time (Some table) request core (load.Failed faults) said also = tt
no_time (Some table) request core load.Memory said also = tt

pub no_stoch : (files : Option FileTable) (request : Request) (core : Core) (periods : Periods) (f : FileFault) → CoreLoads files request core → TimeLoads files request core periods → Loads (stoch_file core periods) ShowsStoch files request.stoch (Err f) → HasNoInstance files request (status_of_file file.Stoch f)
no_stoch None request core periods (load.Wrong line kind) said also last = tt
no_stoch None request core periods (load.Failed faults) said also last = tt
no_stoch None request core periods load.Memory said also last = tt
no_stoch (Some table) request core periods (load.Wrong line kind) said also last = inr (inr (inl (core, periods, said, also, ((line, kind), last, refl))))
no_stoch (Some table) request core periods (load.Failed faults) said also last = tt
no_stoch (Some table) request core periods load.Memory said also last = tt

-- and where the join refuses
pub no_join : (files : Option FileTable) (request : Request) (triple : Triple) (f : JoinFault) → AreReadFrom files request triple → IsRefused (joined_of request triple) request.options f → HasNoInstance files request (status_of_join f)
no_join None request triple (join.Anticipates line) read refused = tt
no_join None request triple join.TooManyScenarios read refused = tt
no_join None request triple join.TooManyCells read refused = tt
no_join None request triple (join.Wide reach) read refused = tt
no_join None request triple join.Memory read refused = tt
no_join (Some table) request triple (join.Anticipates line) read refused = inr (inr (inr (inl (triple, join.Anticipates line, read, refused, (λ e. let x = e in cc), refl))))
no_join (Some table) request triple join.TooManyScenarios read refused = inr (inr (inr (inl (triple, join.TooManyScenarios, read, refused, (λ e. let x = e in cc), refl))))
no_join (Some table) request triple join.TooManyCells read refused = inr (inr (inr (inl (triple, join.TooManyCells, read, refused, (λ e. let x = e in cc), refl))))
no_join (Some table) request triple (join.Wide reach) read refused = inr (inr (inr (inl (triple, join.Wide reach, read, refused, (λ e. let x = e in cc), refl))))
no_join (Some table) request triple join.Memory read refused = tt

-- and where the schedule fails
pub no_schedule : (files : Option FileTable) (request : Request) (triple : Triple) (run : Run) (f : FileFault) → AreReadFrom files request triple → IsRunOf request triple run →
    LoadsSchedule files request.schedule run.options (Err f) → HasNoInstance files request (status_of_file file.Schedule f)
no_schedule files request triple run f read joined = by_name files f request.schedule read refl
  where
    by_name : (files : Option FileTable) (f : FileFault) (name : Option (List ℕ)) → AreReadFrom files request triple → request.schedule ≡ name → LoadsSchedule files name run.options (Err f) → HasNoInstance files request (status_of_file file.Schedule f)
    by_name files f None read e never = absurd never
    by_name None (load.Wrong line kind) (Some name) read e said = tt
    by_name None (load.Failed faults) (Some name) read e said = tt
    by_name None load.Memory (Some name) read e said = tt
    by_name (Some table) (load.Wrong line kind) (Some name) read e said = inr (inr (inr (inr (triple, run, name, read, joined, e, ((line, kind), said, refl)))))
    by_name (Some table) (load.Failed faults) (Some name) read e said = tt
    by_name (Some table) load.Memory (Some name) read e said = tt

-- there is no instance for some status
pub none_is : (files : Option FileTable) (request : Request) (s t : Status) → s ≡ t → HasNoInstance files request t → HasNoInstance files request s
none_is files request s t is none = subst (HasNoInstance files request) (sym is) none

-- the count that the fault of a file reports is that of its status
pub fault_told : (file : InputFile) (f : FileFault) → read_fault_of (status_of_file file f) ≡ load_fault_of f
fault_told file (load.Wrong line kind) = refl
fault_told file (load.Failed faults) = refl
fault_told file load.Memory = refl

-- a refusal of the join reports none
pub join_told : (f : JoinFault) → read_fault_of (status_of_join f) ≡ None
join_told (join.Anticipates line) = refl
join_told join.TooManyScenarios = refl
join_told join.TooManyCells = refl
join_told (join.Wide reach) = refl
join_told join.Memory = refl

-- there is no run where the join refuses, and how the loads end then
pub run_refused : (files : Option FileTable) (request : Request) (triple : Triple) (s : Status) → AreReadFrom files request triple → MakesRun triple request.options (Err s) → HasNoInstance files request s
run_refused files request triple s read (fault, refused, e) = none_is files request s (status_of_join fault) e (no_join files request triple fault read refused)

pub refused_turn : (files : Option FileTable) (request : Request) (triple : Triple) (old new : Names) (s : Status) → LoadsTo files request file.Join old new → MakesRun triple request.options (Err s) → LoadsInTurn files request old new s
refused_turn files request triple old new s loaded (fault, refused, e) = turn_is files request old new s (status_of_join fault) e (join_ends files request old new fault loaded)
