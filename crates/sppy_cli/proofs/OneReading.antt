-- The files of a request say one core, one list of periods, one stoch file's data and one schedule, or one fault.
use Rattle.std.proofs.Common.{◌≡◌, ◌∙◌, ℕ, List, Option, Some, Ok, Err, Result, sym, ap, subst}
use Rattle.std.specs.FinMap.{get}
use Rattle.io_edge.specs.Shelves.{FileTable}
use Rattle.run_words.specs.Words.{Request}
use Rattle.smps_core.specs.CoreData.{IsCoreOf}
use Rattle.smps_stoch.specs.declared.stoch.Stoch.{Stoch}
use Rattle.smps_words.specs.declared.core_file.Core.{Core}
use Rattle.smps_words.specs.declared.periods.Periods.{Periods}
use Rattle.join_words.specs.RunOf.{options_of}
use Rattle.sp_model.specs.declared.run.Run.{Run}
use Rattle.sppy_cli.specs.Causes.{IsFaulty, IsInstanceOf, IsRunOf, ScheduleFails, StochFails, TimeFails, input_at, joined_of}
use Rattle.sppy_cli.specs.Files.{ArePeriodsIn, AreRead, HasSchedule, IsCoreIn, IsSaidIn, IsStochIn, ShowsPeriods, ShowsStoch, ShowsTurns, core_file, schedule_file, stoch_file, time_file}
use Rattle.sppy_cli.specs.declared.instance.Instance.{Instance}
use Rattle.sppy_cli.specs.declared.instance.Triple.{Triple}
use Rattle.sppy_cli.specs.declared.status.InputFile.{InputFile}
use Rattle.sppy_cli.specs.declared.status.InputFile.TheVariants as file
use Rattle.sppy_cli.specs.declared.status.InputKind.{InputKind}
use Rattle.sppy_cli.specs.declared.status.Status.{Status}
use Rattle.sppy_cli.proofs.OneCore.{core_is_one, periods_are_one}

-- a file says data or a fault, and not both
pub clash : {V X : Type 0} (shows : V → X → Type 0) (said : Option (Result V (ℕ × InputKind))) (x : X) (fault : ℕ × InputKind) → IsSaidIn shows said x → said ≡ Some (Err fault) → ⊥
clash shows said x fault (v, e, shown) f = let g = sym e ∙ f in cc

-- one fault
one_told : {V : Type 0} (said : Option (Result V (ℕ × InputKind))) (f g : ℕ × InputKind) → said ≡ Some (Err f) → said ≡ Some (Err g) → f ≡ g
one_told said f g e h = cc

pub same_status : {V : Type 0} (file : InputFile) (said : Option (Result V (ℕ × InputKind))) (s t : Status) → IsFaulty file said s → IsFaulty file said t → s ≡ t
same_status file said s t (f, e, is) (g, h, also) = is ∙ ap (input_at file) (one_told said f g e h) ∙ sym also

-- one core, and the same periods and data beside it
pub one_core : (file : Option (List ℕ)) (c d : Core) → IsCoreIn file c → IsCoreIn file d → c ≡ d
one_core file c d (said, e, is) (other, f, also) =
    let same : other ≡ said = one_said (core_file file) other said f e in
    core_is_one said c d is (subst (λ b. IsCoreOf b d) same also)
  where
    one_said : {V : Type 0} (told : Option (Result V (ℕ × InputKind))) (v w : V) → told ≡ Some (Ok v) → told ≡ Some (Ok w) → v ≡ w
    one_said told v w e f = cc

pub one_periods : (file : Option (List ℕ)) (core : Core) (p q : Periods) → ArePeriodsIn core file p → ArePeriodsIn core file q → p ≡ q
one_periods file core p q (said, e, is) (other, f, also) =
    periods_are_one p q (sym is ∙ one_said (time_file core file) said other e f ∙ also)
  where
    one_said : {V : Type 0} (told : Option (Result V (ℕ × InputKind))) (v w : V) → told ≡ Some (Ok v) → told ≡ Some (Ok w) → v ≡ w
    one_said told v w e f = cc

one_stoch : (file : Option (List ℕ)) (core : Core) (periods : Periods) (s t : Stoch) → IsStochIn core periods file s → IsStochIn core periods file t → s ≡ t
one_stoch file core periods s t (said, e, is) (other, f, also) = sym is ∙ one_said (stoch_file core periods file) said other e f ∙ also
  where
    one_said : {V : Type 0} (told : Option (Result V (ℕ × InputKind))) (v w : V) → told ≡ Some (Ok v) → told ≡ Some (Ok w) → v ≡ w
    one_said told v w e f = cc

abbrev triple_with : Core → Periods → Stoch → Triple
triple_with core periods stoch = record { core = core; periods = periods; stoch = stoch }

-- one set of data of all three files
pub one_triple : (table : FileTable) (request : Request) (d e : Triple) → AreRead table request d → AreRead table request e → d ≡ e
one_triple table request d e read also =
    let core = one_core (get table request.core) d.core e.core read.core_is also.core_is in
    let periods = one_periods (get table request.time) e.core d.periods e.periods (subst (λ c. ArePeriodsIn c (get table request.time) d.periods) core read.periods_are) also.periods_are in
    let beside = subst (λ p. IsStochIn e.core p (get table request.stoch) d.stoch) periods (subst (λ c. IsStochIn c d.periods (get table request.stoch) d.stoch) core read.stoch_is) in
    let stoch = one_stoch (get table request.stoch) e.core e.periods d.stoch e.stoch beside also.stoch_is in
    ap (λ c. triple_with c d.periods d.stoch) core ∙ ap (λ p. triple_with e.core p d.stoch) periods ∙ ap (triple_with e.core e.periods) stoch

-- a time file that says periods has no fault beside the same core
pub time_clash : (table : FileTable) (request : Request) (core other : Core) (periods : Periods) (s : Status) →
    IsCoreIn (get table request.core) core → IsCoreIn (get table request.core) other → ArePeriodsIn other (get table request.time) periods → IsFaulty file.Time (time_file core (get table request.time)) s → ⊥
time_clash table request core other periods s is also are (fault, said, e) =
    let same = one_core (get table request.core) other core also is in
    clash ShowsPeriods (time_file core (get table request.time)) periods fault (subst (λ c. ArePeriodsIn c (get table request.time) periods) same are) said

-- where three files say data, neither the time file nor the stoch file has a fault
pub no_time_cause : (table : FileTable) (request : Request) (triple : Triple) (s : Status) → AreRead table request triple → TimeFails table request s → ⊥
no_time_cause table request triple s read (core, is, faulty) = time_clash table request core triple.core triple.periods s is read.core_is read.periods_are faulty

pub no_stoch_cause : (table : FileTable) (request : Request) (triple : Triple) (s : Status) → AreRead table request triple → StochFails table request s → ⊥
no_stoch_cause table request triple s read (core, periods, is, are, (fault, said, e)) =
    let same = one_core (get table request.core) core triple.core is read.core_is in
    let both = one_periods (get table request.time) triple.core periods triple.periods (subst (λ c. ArePeriodsIn c (get table request.time) periods) same are) read.periods_are in
    let beside = subst (λ p. stoch_file triple.core p (get table request.stoch) ≡ Some (Err fault)) both (subst (λ c. stoch_file c periods (get table request.stoch) ≡ Some (Err fault)) same said) in
    clash ShowsStoch (stoch_file triple.core triple.periods (get table request.stoch)) triple.stoch fault read.stoch_is beside

-- one set of data has one run's options
pub same_options : (request : Request) (d e : Triple) (r q : Run) → d ≡ e → IsRunOf request d r → IsRunOf request e q → r.options ≡ q.options
same_options request d e r q same joined also = joined.options_are ∙ ap (λ t. options_of (joined_of request t) request.options) same ∙ sym also.options_are

-- an instance's schedule has no fault beside its run
pub no_schedule_cause : (table : FileTable) (request : Request) (i : Instance) (s : Status) → IsInstanceOf (Some table) request i → ScheduleFails table request s → ⊥
no_schedule_cause table request i s (read, joined, has) (triple, run, name, also, too, is, (fault, said, e)) =
    let same = same_options request triple i.triple run i.run (one_triple table request triple i.triple also read) too joined in
    let beside = subst (λ o. schedule_file o (get table name) ≡ Some (Err fault)) same said in
    clash ShowsTurns (schedule_file i.run.options (get table name)) i.schedule fault (subst (λ n. HasSchedule table n i.run.options i.schedule) is has) beside
