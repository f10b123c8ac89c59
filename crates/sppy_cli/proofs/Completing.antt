-- What a command's status says of files that make an instance, and of a cause why they make none.
use Rattle.std.proofs.Common.{◌≡◌, inl, inr, ◌∙◌, ℕ, List, Option, Some, None, refl, sym, ap, subst}
use Rattle.std.specs.FinMap.{get}
use Rattle.io_edge.specs.Faults.{CountsTo}
use Rattle.io_edge.specs.Shelves.{FileTable}
use Rattle.join_words.specs.Joining.{IsRefused}
use Rattle.run_words.specs.Words.{Request}
use Rattle.run_words.specs.declared.command.Action.{Action}
use Rattle.run_words.specs.declared.command.Action.TheVariants.{Wait, Show, Drive}
use Rattle.smps_core.specs.CoreData.{IsCoreOf}
use Rattle.sppy_cli.specs.Causes.{CoreFails, IsCause, IsFaulty, IsInstanceOf, JoinFails, ScheduleFails, StochFails, TimeFails, joined_of, status_of_join}
use Rattle.sppy_cli.specs.Complete.{Completes, CompletesIn, EndsBy, EndsByRun, IsCalm, RefusesAsked, RefusesIn}
use Rattle.sppy_cli.specs.Desk.{Answers, AnswersRequest}
use Rattle.sppy_cli.specs.Files.{ArePeriodsIn, schedule_file, stoch_file, time_file}
use Rattle.sppy_cli.specs.Statuses.{read_fault_of, write_fault_of}
use Rattle.sppy_cli.specs.Texts.{IsRest, Solves, Writes}
use Rattle.sppy_cli.specs.declared.instance.Instance.{Instance}
use Rattle.sppy_cli.specs.declared.status.InputFile.TheVariants as file
use Rattle.sppy_cli.specs.declared.status.Status.{Status}
use Rattle.sppy_cli.specs.declared.status.Status.TheVariants as status
use Rattle.sppy_cli.proofs.OneReading.{clash, no_schedule_cause, no_stoch_cause, no_time_cause, one_core, one_triple, one_periods, same_options, same_status, time_clash}
use Rattle.sppy_cli.proofs.OneJoin.{one_refusal, run_or_refusal}
use Rattle.wait_and_see.specs.WaitAnswers.{AllHavePoints}
use Rattle.wait_and_see.proofs.Points.{bounded_have_points}

-- where the files make an instance, there is no cause
no_cause : (table : FileTable) (request : Request) (i : Instance) (s : Status) → IsInstanceOf (Some table) request i → IsCause table request s → ⊥
no_cause table request i s (read, joined, has) (inl (fault, said, e)) = clash IsCoreOf _ i.triple.core fault read.core_is said
no_cause table request i s (read, joined, has) (inr (inl fails)) = no_time_cause table request i.triple s read fails
no_cause table request i s (read, joined, has) (inr (inr (inl fails))) = no_stoch_cause table request i.triple s read fails
no_cause table request i s (read, joined, has) (inr (inr (inr (inl (triple, fault, also, refused, other, e))))) =
    let same = one_triple table request triple i.triple also read in
    run_or_refusal (joined_of request i.triple) request.options i.run fault joined (subst (λ d. IsRefused (joined_of request d) request.options fault) same refused) other
no_cause table request i s (read, joined, has) (inr (inr (inr (inr fails)))) = no_schedule_cause table request i s (read, joined, has) fails

-- only one cause is the first
core_first : (table : FileTable) (request : Request) (s t : Status) → CoreFails table request s → IsCause table request t → s ≡ t
core_first table request s t fails (inl also) = same_status file.Core _ s t fails also
core_first table request s t (fault, said, e) (inr (inl (core, is, rest))) = absurd (clash IsCoreOf _ core fault is said)
core_first table request s t (fault, said, e) (inr (inr (inl (core, periods, is, are, rest)))) = absurd (clash IsCoreOf _ core fault is said)
core_first table request s t (fault, said, e) (inr (inr (inr (inl (triple, f, read, refused, told, out))))) = absurd (clash IsCoreOf _ triple.core fault read.core_is said)
core_first table request s t (fault, said, e) (inr (inr (inr (inr (triple, run, name, read, joined, told, rest))))) = absurd (clash IsCoreOf _ triple.core fault read.core_is said)

time_first : (table : FileTable) (request : Request) (s t : Status) → TimeFails table request s → IsCause table request t → s ≡ t
time_first table request s t fails (inl also) = sym (core_first table request t s also (inr (inl fails)))
time_first table request s t (core, is, faulty) (inr (inl (other, also, faulty2))) =
    let same = one_core (get table request.core) other core also is in
    same_status file.Time _ s t faulty (subst (λ c. IsFaulty file.Time (time_file c (get table request.time)) t) same faulty2)
time_first table request s t (core, is, faulty) (inr (inr (inl (other, periods, also, periods_are, rest)))) =
    absurd (time_clash table request core other periods s is also periods_are faulty)
time_first table request s t (core, is, faulty) (inr (inr (inr (inl (triple, f, read, refused, told, out))))) =
    absurd (time_clash table request core triple.core triple.periods s is read.core_is read.periods_are faulty)
time_first table request s t (core, is, faulty) (inr (inr (inr (inr (triple, run, name, read, joined, told, rest))))) =
    absurd (time_clash table request core triple.core triple.periods s is read.core_is read.periods_are faulty)

stoch_first : (table : FileTable) (request : Request) (s t : Status) → StochFails table request s → IsCause table request t → s ≡ t
stoch_first table request s t fails (inl also) = sym (core_first table request t s also (inr (inr (inl fails))))
stoch_first table request s t fails (inr (inl also)) = sym (time_first table request t s also (inr (inr (inl fails))))
stoch_first table request s t (core, periods, is, are, faulty) (inr (inr (inl (other, others, also, too, faulty2)))) =
    let same = one_core (get table request.core) other core also is in
    let both = one_periods (get table request.time) core others periods (subst (λ c. ArePeriodsIn c (get table request.time) others) same too) are in
    same_status file.Stoch _ s t faulty
    (subst (λ p. IsFaulty file.Stoch (stoch_file core p (get table request.stoch)) t) both
    (subst (λ c. IsFaulty file.Stoch (stoch_file c others (get table request.stoch)) t) same faulty2))
stoch_first table request s t fails (inr (inr (inr (inl (triple, f, read, refused, told, out))))) = absurd (no_stoch_cause table request triple s read fails)
stoch_first table request s t fails (inr (inr (inr (inr (triple, run, name, read, joined, told, rest))))) = absurd (no_stoch_cause table request triple s read fails)

join_first : (table : FileTable) (request : Request) (s t : Status) → JoinFails table request s → IsCause table request t → s ≡ t
join_first table request s t fails (inl also) = sym (core_first table request t s also (inr (inr (inr (inl fails)))))
join_first table request s t fails (inr (inl also)) = sym (time_first table request t s also (inr (inr (inr (inl fails)))))
join_first table request s t fails (inr (inr (inl also))) = sym (stoch_first table request t s also (inr (inr (inr (inl fails)))))
join_first table request s t (triple, f, read, refused, told, e) (inr (inr (inr (inl (other, g, also, refused2, told2, e2))))) =
    let same = one_triple table request other triple also read in
    let one = one_refusal (joined_of request triple) request.options f g refused (subst (λ d. IsRefused (joined_of request d) request.options g) same refused2) told told2 in
    e ∙ ap status_of_join one ∙ sym e2
join_first table request s t (triple, f, read, refused, told, e) (inr (inr (inr (inr (other, run, name, also, joined, is, faulty))))) =
    let same = one_triple table request triple other read also in
    absurd (run_or_refusal (joined_of request other) request.options run f joined (subst (λ d. IsRefused (joined_of request d) request.options f) same refused) told)

schedule_first : (table : FileTable) (request : Request) (s t : Status) → ScheduleFails table request s → IsCause table request t → s ≡ t
schedule_first table request s t fails (inl also) = sym (core_first table request t s also (inr (inr (inr (inr fails)))))
schedule_first table request s t fails (inr (inl also)) = sym (time_first table request t s also (inr (inr (inr (inr fails)))))
schedule_first table request s t fails (inr (inr (inl also))) = sym (stoch_first table request t s also (inr (inr (inr (inr fails)))))
schedule_first table request s t fails (inr (inr (inr (inl also)))) = sym (join_first table request t s also (inr (inr (inr (inr fails)))))
schedule_first table request s t (triple, run, name, read, joined, is, faulty) (inr (inr (inr (inr (other, second, also_name, also, too, is2, faulty2))))) =
    let one = one_name request.schedule name also_name is is2 in
    let same = same_options request triple other run second (one_triple table request triple other read also) joined too in
    same_status file.Schedule _ s t faulty
    (subst (λ n. IsFaulty file.Schedule (schedule_file run.options (get table n)) t) (sym one)
    (subst (λ o. IsFaulty file.Schedule (schedule_file o (get table also_name)) t) (sym same) faulty2))
  where
    one_name : (given : Option (List ℕ)) (n m : List ℕ) → given ≡ Some n → given ≡ Some m → n ≡ m
    one_name given n m e f = let g = sym e ∙ f in cc

one_cause : (table : FileTable) (request : Request) (s t : Status) → IsCause table request s → IsCause table request t → s ≡ t
one_cause table request s t (inl fails) also = core_first table request s t fails also
one_cause table request s t (inr (inl fails)) also = time_first table request s t fails also
one_cause table request s t (inr (inr (inl fails))) also = stoch_first table request s t fails also
one_cause table request s t (inr (inr (inr (inl fails)))) also = join_first table request s t fails also
one_cause table request s t (inr (inr (inr (inr fails)))) also = schedule_first table request s t fails also

-- how a command ends by what it wrote
ends : (action : Action) (i : Instance) (old new : Option (List ℕ)) (s : Status) → Writes action i old new s → write_fault_of s ≡ None → EndsBy action i.run s
ends action i old new status.Done (text, (rest, is, e), f) none = λ a. points action a is
  where
    points : (action : Action) → Solves action → IsRest action i rest → AllHavePoints i.run
    points Wait a (bound, lines, b, h, g) = bounded_have_points i.run bound b
    points Show never is = absurd never
    points Drive a (log, lines, is, driven, h, g) = bounded_have_points i.run log.first is.first
ends action i old new (status.Infeasible scenario) (a, first, e) none = (a, first)
ends action i old new (status.Spent scenario opened) (a, spent, e) none = (a, spent)
ends action i old new (status.WriteFault faults) front none = absurd (let x = none in cc)
ends action i old new status.Memory front none = tt
ends action i old new status.Words never none = never
ends action i old new (status.Input fault) never none = never
ends action i old new (status.Wide reach) never none = never
ends action i old new (status.ReadFault faults) never none = never

-- a request whose files make an instance
by_run : (table : FileTable) (request : Request) (i : Instance) (old new : Option (List ℕ)) (w v : ℕ) (s : Status) →
    IsInstanceOf (Some table) request i → Writes request.action i old new s → CountsTo w v (write_fault_of s) → IsCalm w v → EndsByRun table request s
by_run table request i old new w v (status.WriteFault faults) is wrote (rises, e) calm = absurd (calm rises)
by_run table request i old new w v status.Done is wrote counts calm = (i, is, ends request.action i old new status.Done wrote refl)
by_run table request i old new w v status.Words is wrote counts calm = (i, is, ends request.action i old new status.Words wrote refl)
by_run table request i old new w v (status.Input fault) is wrote counts calm = (i, is, ends request.action i old new (status.Input fault) wrote refl)
by_run table request i old new w v (status.Infeasible scenario) is wrote counts calm = (i, is, ends request.action i old new (status.Infeasible scenario) wrote refl)
by_run table request i old new w v (status.Spent scenario opened) is wrote counts calm = (i, is, ends request.action i old new (status.Spent scenario opened) wrote refl)
by_run table request i old new w v (status.Wide reach) is wrote counts calm = (i, is, ends request.action i old new (status.Wide reach) wrote refl)
by_run table request i old new w v (status.ReadFault faults) is wrote counts calm = (i, is, ends request.action i old new (status.ReadFault faults) wrote refl)
by_run table request i old new w v status.Memory is wrote counts calm = (i, is, ends request.action i old new status.Memory wrote refl)

complete_by : (table : FileTable) (request : Request) (old new : Option (List ℕ)) (r u w v : ℕ) (s : Status) →
    AnswersRequest (Some table) request old new s → CountsTo r u (read_fault_of s) → CountsTo w v (write_fault_of s) → CompletesIn table request r u w v s
complete_by table request old new r u w v s (inl (i, is, wrote)) reads writes other also calm_in calm_out = by_run table request i old new w v s is wrote writes calm_out
complete_by table request old new r u w v (status.Input fault) (inr (cause, e)) reads writes i is calm_in calm_out = absurd (no_cause table request i (status.Input fault) is cause)
complete_by table request old new r u w v (status.Wide reach) (inr (cause, e)) reads writes i is calm_in calm_out = absurd (no_cause table request i (status.Wide reach) is cause)
complete_by table request old new r u w v (status.ReadFault faults) (inr a) (rises, e) writes i is calm_in calm_out = absurd (calm_in rises)
complete_by table request old new r u w v status.Memory (inr a) reads writes i is calm_in calm_out = (i, is, tt)
complete_by table request old new r u w v status.Done (inr (never, e)) reads writes i is calm_in calm_out = absurd never
complete_by table request old new r u w v status.Words (inr (never, e)) reads writes i is calm_in calm_out = absurd never
complete_by table request old new r u w v (status.Infeasible scenario) (inr (never, e)) reads writes i is calm_in calm_out = absurd never
complete_by table request old new r u w v (status.Spent scenario opened) (inr (never, e)) reads writes i is calm_in calm_out = absurd never
complete_by table request old new r u w v (status.WriteFault faults) (inr (never, e)) reads writes i is calm_in calm_out = absurd never

-- a request whose files make none
refuses_by : (table : FileTable) (request : Request) (old new : Option (List ℕ)) (s : Status) → AnswersRequest (Some table) request old new s → RefusesIn table request s
refuses_by table request old new s (inl (i, is, wrote)) cause has = absurd (no_cause table request i cause is has)
refuses_by table request old new (status.Input fault) (inr (own, e)) cause has = one_cause table request (status.Input fault) cause own has
refuses_by table request old new (status.Wide reach) (inr (own, e)) cause has = one_cause table request (status.Wide reach) cause own has
refuses_by table request old new (status.ReadFault faults) (inr a) cause has = tt
refuses_by table request old new status.Memory (inr a) cause has = tt
refuses_by table request old new status.Done (inr (never, e)) cause has = absurd never
refuses_by table request old new status.Words (inr (never, e)) cause has = absurd never
refuses_by table request old new (status.Infeasible scenario) (inr (never, e)) cause has = absurd never
refuses_by table request old new (status.Spent scenario opened) (inr (never, e)) cause has = absurd never
refuses_by table request old new (status.WriteFault faults) (inr (never, e)) cause has = absurd never

-- the same where the files are told and the words are well formed
pub completes : (files : Option FileTable) (asked : Option Request) (old new : Option (List ℕ)) (r u w v : ℕ) (s : Status) →
    Answers files asked old new s → CountsTo r u (read_fault_of s) → CountsTo w v (write_fault_of s) → Completes files asked r u w v s
completes None asked old new r u w v s a reads writes = tt
completes (Some table) None old new r u w v s a reads writes = tt
completes (Some table) (Some request) old new r u w v s a reads writes = complete_by table request old new r u w v s a reads writes

pub refuses : (files : Option FileTable) (asked : Option Request) (old new : Option (List ℕ)) (s : Status) → Answers files asked old new s → RefusesAsked files asked s
refuses None asked old new s a = tt
refuses (Some table) None old new s a = tt
refuses (Some table) (Some request) old new s a = refuses_by table request old new s a
