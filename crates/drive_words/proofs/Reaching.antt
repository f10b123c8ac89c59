-- Steps that were made as a schedule and its rounds ask lead to rest, and the log that is closed
-- there is the one that the schedule gives.

use Rattle.std.proofs.Common.{arith, refl, sym, ap, subst, ◌∙◌, ◌≡◌, ℕ, ◌<◌, nat_eq, nat_lt, Bool, true, false, List, [], ◌∷◌, ◌++◌, length, get_or, ℤ, Option, Some, None, if◌then◌else◌}
use Rattle.std.specs.List.{All}
use Rattle.std.proofs.lemmas.List.{get_or_default, get_or_past}
use Rattle.std.proofs.lemmas.Option.{slice_get-get_or}
use Rattle.std.proofs.lemmas.List.FromFn.{fill_by_all}
use Rattle.base_words.proofs.NumberTests.{less_from_test, not_less_from_test}
use Rattle.base_words.specs.FirstAnswers.{first_some}
use Rattle.lagrangian_spoke.specs.Answering.{last_put}
use Rattle.lagrangian_spoke.specs.declared.spoke.Phase.{Phase}
use Rattle.lagrangian_spoke.specs.declared.spoke.Phase.TheVariants.{Asks, Reads, Opens, Writes, Ended}
use Rattle.log_words.specs.declared.log.Answer.{Answer}
use Rattle.log_words.specs.declared.log.SpokeLog.{SpokeLog}
use Rattle.sp_model.specs.declared.run.Run.{Run}
use Rattle.schedule_lines.specs.declared.schedule.Turn.{Turn}
use Rattle.run_log.specs.Events.{present}
use Rattle.run_log.specs.Runs.{IsRun, left_from, own_claims}
use Rattle.run_log.specs.declared.log.End.{End}
use Rattle.run_log.specs.declared.log.Log.{Log}
use Rattle.drive_words.specs.Worlds.{SpokeAt, World, first_world, no_spoke, put_at, spoke_at}
use Rattle.drive_words.specs.Driving.{Cuts, IsDriven, cuts_of, last_answer, last_world, log_in, logs_in, next_of_end, no_log, skip_in, skip_of, spent_end}
use Rattle.drive_words.specs.Resting.{IsAtRest}
use Rattle.drive_words.specs.Leading.{AreRising, ClosesBehind, IsPendingNewer, LeadTo, SayOf, SaysOf, SaysPending, all_asks}
use Rattle.drive_words.proofs.AtRest.{first_is, rounds_enough}
use Rattle.drive_words.proofs.Cutting.{all_says, lead_world}
use Rattle.drive_words.proofs.Logs.{log_is_driven, same_present}
use Rattle.drive_words.proofs.RoundWork.{IsWorld}
use Rattle.drive_words.proofs.Saying.{HaveRisen, say_answers, say_before, say_end, say_front, say_newer}

-- the cuts that a world names itself
abbrev spent_why : Option End → Option ℕ
spent_why None = None
spent_why (Some why) = spent_end why

abbrev cuts_at : World → Cuts
cuts_at w = record {
  skips = λ i k. first_some (skip_in k) (spoke_at w i).answers;
  next = λ k. if nat_eq k (put_at w) then spent_why w.hub.why else None;
}

test_before : (k p : ℕ) → k < p → nat_eq k p ≡ false
test_before k p l = grind arith

test_itself : (p : ℕ) → nat_eq p p ≡ true
test_itself p = grind arith

pending_says : (answers : List Answer) → HaveRisen answers → (k : ℕ) (phase : Phase) → IsPendingNewer (last_put answers) k phase → SaysPending (λ m. first_some (skip_in m) answers) k phase
pending_says answers rising k Asks newer = tt
pending_says answers rising k Reads newer = tt
pending_says answers rising k Opens newer = say_newer answers rising k newer
pending_says answers rising k (Writes n) newer = say_newer answers rising k newer
pending_says answers rising k Ended newer = tt

at_says : (w : World) → AreRising w → SayOf (cuts_at w) w
at_says w rising = record {
  answers = λ i. say_answers (spoke_at w i).answers (rising i).rising;
  pending = λ i. pending_says (spoke_at w i).answers (rising i).rising (spoke_at w i).reading.last (spoke_at w i).phase (rising i).pending;
  puts = λ k l. ap (λ t. if t then spent_why w.hub.why else None) (test_before k (put_at w) l);
  ended = λ s e. ap (λ t. if t then spent_why w.hub.why else None) (test_itself (put_at w)) ∙ ap spent_why e;
}

module _ (run : Run) (first : ℤ) (turns : List Turn) (w : World) (leads : LeadTo run first (all_asks run turns) (first_world run) w) where
  pub leads_to_rest : AreRising w → IsAtRest w
  leads_to_rest rising = subst IsAtRest (all_says run first (cuts_at w) turns w leads (at_says w rising)) (rounds_enough run first (cuts_at w) turns)

  is_world : IsWorld run w
  is_world = lead_world run first (all_asks run turns) (first_world run) w (first_is run) leads

  -- a log that is closed there
  module _ (log : Log) (same : log.first ≡ first) (rest : IsAtRest w) (closes : ClosesBehind run w log) (is : IsRun run log) where
    abbrev p : ℕ
    p = put_at w

    abbrev handed : ℕ → List Answer
    handed i = (get_or log.spokes i no_log).answers

    put_is : present log.events ≡ p
    put_is = ap present closes.events ∙ same_present (own_claims run p log.end ++ left_from w.hub.events 0 log.spokes) w.hub.events closes.closing closes.claims

    crew : length w.spokes ≡ run.options.lagrangian
    crew = is_world.crew

    risen : (i : ℕ) → i < run.options.lagrangian → HaveRisen (handed i)
    risen i l = (is.spokes i (get_or log.spokes i no_log) (slice_get-get_or log.spokes i no_log (let n = closes.many in omega (arith, l, n)))).answers.rising

    -- what a spoke has answered is the front of what it hands over
    front_by : (i : ℕ) (t : Bool) (all answers : List Answer) → all ≡ (if t then (answers ++ last_answer run i p (skip_of log.spokes i p) ∷ []) else answers) → All (SaysOf (skip_of log.spokes i)) all → All (SaysOf (skip_of log.spokes i)) answers
    front_by i true all answers e say = say_front (skip_of log.spokes i) answers (last_answer run i p (skip_of log.spokes i p) ∷ []) (subst (All (SaysOf (skip_of log.spokes i))) e say)
    front_by i false all answers e say = subst (All (SaysOf (skip_of log.spokes i))) e say

    says_there : (i : ℕ) → i < run.options.lagrangian → All (SaysOf (skip_of log.spokes i)) (spoke_at w i).answers
    says_there i l = front_by i (nat_lt (last_put (spoke_at w i).answers) p) (handed i) (spoke_at w i).answers (closes.finished_is i l) (say_answers (handed i) (risen i l))

    says_by : (i : ℕ) (t : Bool) → nat_lt i run.options.lagrangian ≡ t → All (SaysOf (skip_of log.spokes i)) (spoke_at w i).answers
    says_by i true e = says_there i (less_from_test i run.options.lagrangian e)
    says_by i false e =
        let past : spoke_at w i ≡ no_spoke = get_or_past w.spokes i no_spoke (let n = crew in let m = not_less_from_test i run.options.lagrangian e in omega (arith, n, m)) in
        subst (λ (s : SpokeAt). All (SaysOf (skip_of log.spokes i)) s.answers) (sym past) (λ j d l. absurd (omega (arith, l)))

    ended_by : (i : ℕ) (t : Bool) → nat_lt i (length w.spokes) ≡ t → (spoke_at w i).phase ≡ Ended
    ended_by i true e = rest.spokes i (less_from_test i (length w.spokes) e)
    ended_by i false e = ap (λ (s : SpokeAt). s.phase) (get_or_past w.spokes i no_spoke (not_less_from_test i (length w.spokes) e))

    says : SayOf (cuts_of log) w
    says = record {
      answers = λ i. says_by i (nat_lt i run.options.lagrangian) refl;
      pending = λ i. subst (λ ph. SaysPending (skip_of log.spokes i) (spoke_at w i).reading.last ph) (sym (ended_by i (nat_lt i (length w.spokes)) refl)) tt;
      puts = λ k l. say_before (present log.events) k log.end (let n = put_is in omega (arith, l, n));
      ended = λ s e. subst (λ n. next_of_end (present log.events) log.end n ≡ Some s) put_is (say_end (present log.events) s w.hub.why log.end closes.why e);
    }

    last_is : last_world run first turns (cuts_of log) ≡ w
    last_is = all_says run first (cuts_of log) turns w leads says

    log_at : (i : ℕ) (d : SpokeLog) → i < run.options.lagrangian → get_or log.spokes i d ≡ log_in run (cuts_of log) w i
    log_at i d l =
        let there : i < length log.spokes = (let n = closes.many in omega (arith, l, n)) in
        let spoke = is.spokes i (get_or log.spokes i no_log) (slice_get-get_or log.spokes i no_log there) in
        get_or_default log.spokes i d no_log there
        ∙ (λ j. record { kind = spoke.kind j; answers = closes.finished_is i l j })

    spokes_are : log.spokes ≡ logs_in run (cuts_of log) w
    spokes_are = fill_by_all (log_in run (cuts_of log) w) log.spokes run.options.lagrangian no_log closes.many (λ i l. log_at i no_log l)

    pub closed_is_driven : IsDriven run turns log
    closed_is_driven = log_is_driven run turns w log closes.closing (ap (λ f. last_world run f turns (cuts_of log)) same ∙ last_is) spokes_are closes.why closes.events closes.claims is
