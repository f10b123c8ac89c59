-- What the takes of a run bound is so: replies are dual values of balanced multipliers, and what the hub takes of its own is the cost of a plan.
use Rattle.std.proofs.Common.{arith, ◌≡◌, ◌<◌, ◌≤◌, ◌∙◌, ℕ, zero, suc, ◌+◌, ◌-◌, ℤ, List, [], ◌∷◌, ◌++◌, map, take, get_or, Option, Some, None, Bool, true, false, refl, sym, ap, subst}
use Rattle.std.specs.Prelude.{IfSome, slice_get, if◌then◌else◌}
use Rattle.std.specs.List.{All, AllByRecursion, cons_option, filter_map}
use Rattle.std.specs.Option.{option_and_then}
use Rattle.std.proofs.lemmas.List.Elements.{recursion_from_All}
use Rattle.std.proofs.lemmas.Option.{slice_get-get_or}
use Rattle.agreement.proofs.Agreed.{agreed_is_plan}
use Rattle.agreement.specs.Agreeing.{AreAgreed}
use Rattle.base_words.proofs.NumberTests.{test_from_less}
use Rattle.bound_ledger.specs.declared.ledger.Bound.{Bound}
use Rattle.bound_ledger.specs.declared.ledger.Bound.TheVariants.{Lower, Upper, Nothing}
use Rattle.bound_ledger.specs.declared.ledger.Pair.{Pair}
use Rattle.lagrangian_spoke.specs.Answering.{IsAnswer}
use Rattle.log_words.specs.Replies.{least_price, reply_of, reply_to, tried}
use Rattle.log_words.specs.declared.log.Answer.{Answer}
use Rattle.log_words.specs.declared.log.Answer.TheVariants.{Reply, Skip}
use Rattle.log_words.specs.declared.log.SpokeLog.{SpokeLog}
use Rattle.put_words.specs.Puts.{Made, put_of}
use Rattle.run_log.specs.Enclosing.{IsLowerBound}
use Rattle.run_log.specs.Events.{bound_from, is_taken, pair_in, present}
use Rattle.run_log.specs.Runs.{Claim, EndsBy, IsRun, MayFollow, claim_of, left_from, left_in, own_claims, plan_of, values_of}
use Rattle.run_log.specs.declared.log.End.{End}
use Rattle.run_log.specs.declared.log.End.TheVariants.{Agreed, Gap, Iterations, Spent}
use Rattle.run_log.specs.declared.log.Event.{Event}
use Rattle.run_log.specs.declared.log.Event.TheVariants.{Put, Take}
use Rattle.run_log.specs.declared.log.Log.{Log}
use Rattle.run_log.specs.declared.log.Source.TheVariants.{Hub, Spoke}
use Rattle.sp_model.proofs.Duality.{dual_below}
use Rattle.sp_model.specs.Plans.{AreBalanced, IsPlan, cost_of, dual_of}
use Rattle.sp_model.specs.Problems.{scenarios}
use Rattle.sp_model.specs.ScenarioPoints.{HavePoints}
use Rattle.sp_model.specs.declared.run.Run.{Run}
use Rattle.wait_and_see.proofs.Points.{bounded_have_points}

-- the multipliers of each put are balanced
abbrev pub PutsAreBalanced : Type 0
PutsAreBalanced = (run : Run) (k : ℕ) (made : Made) → put_of run k ≡ Some made → AreBalanced run made.put.multipliers

-- each put is there where each scenario has a point
abbrev pub PutsAreThere : Type 0
PutsAreThere = (run : Run) (k : ℕ) → HavePoints run (scenarios run) → 1 ≤ k → (made : Made) × (put_of run k ≡ Some made)

-- a reply is the dual value of its put's multipliers
pub reply_dual : (run : Run) (i k : ℕ) (v : ℤ) → i < run.options.lagrangian → reply_of run i k ≡ Some v → (made : Made) × (put_of run k ≡ Some made) × (dual_of run made.put.multipliers ≡ Some v)
reply_dual run i k v l e = by_put (put_of run k) refl e
  where
    by_put : (o : Option Made) → put_of run k ≡ o → option_and_then (reply_to run i) o ≡ Some v → (made : Made) × (put_of run k ≡ Some made) × (dual_of run made.put.multipliers ≡ Some v)
    by_put None p f = absurd (let x = f in cc)
    by_put (Some made) p f = (made, p, sym (ap (λ (b : Bool). if b then dual_of run made.put.multipliers else least_price run (tried run made.put.x (i - run.options.lagrangian))) (test_from_less i run.options.lagrangian l)) ∙ f)

-- and so a lower bound
reply_below : PutsAreBalanced → (run : Run) (i k : ℕ) (value : Option ℤ) → i < run.options.lagrangian → value ≡ reply_of run i k → IfSome value (IsLowerBound run)
reply_below balanced run i k None l e = tt
reply_below balanced run i k (Some v) l e = λ plan is.
    let found = reply_dual run i k v l (sym e) in
    dual_below run found.0.put.multipliers v plan (balanced run k found.0 found.1) found.2 is

-- the answers of a spoke
abbrev IsBelow : Run → Answer → Type 0
IsBelow run (Reply k value) = IfSome value (IsLowerBound run)
IsBelow run (Skip k s opened) = Unit {0}

answer_below : PutsAreBalanced → (run : Run) (i : ℕ) (a : Answer) → i < run.options.lagrangian → IsAnswer run i a → IsBelow run a
answer_below balanced run i (Reply k value) l is = reply_below balanced run i k value l is.1
answer_below balanced run i (Skip k s opened) l is = tt

abbrev AreBelow : Run → SpokeLog → Type 0
AreBelow run log = AllByRecursion (IsBelow run) log.answers

answers_below : PutsAreBalanced → (run : Run) (i : ℕ) (log : SpokeLog) → i < run.options.lagrangian → All (IsAnswer run i) log.answers → AreBelow run log
answers_below balanced run i log l right = recursion_from_All (IsBelow run) log.answers (λ k d h. answer_below balanced run i (get_or log.answers k d) l (right k d h))

logs_below : PutsAreBalanced → (run : Run) (log : Log) → IsRun run log → AllByRecursion (AreBelow run) log.spokes
logs_below balanced run log is = recursion_from_All (AreBelow run) log.spokes (λ i d l. answers_below balanced run i (get_or log.spokes i d) (omega (arith, l, is.many)) (is.spokes i (get_or log.spokes i d) (slice_get-get_or log.spokes i d l)).answers.right)

-- the points of put p are a plan of this cost
abbrev pub IsCostAt : Run → ℕ → ℤ → Type 0
IsCostAt run p value = IsPlan run (plan_of run p) × (cost_of run (plan_of run p) ≡ value)

-- what a bound says is so, where the run ends behind put p
abbrev pub IsSound : Run → ℕ → Bound → Type 0
IsSound run p (Lower value) = IsLowerBound run value
IsSound run p (Upper value) = IsCostAt run p value
IsSound run p Nothing = Unit {0}

abbrev pub IsSoundIn : Run → ℕ → Event → Type 0
IsSoundIn run p (Put k) = Unit {0}
IsSoundIn run p (Take source k value lower upper) = IsSound run p (bound_from source value)

abbrev IsSoundClaim : Run → ℕ → Claim → Type 0
IsSoundClaim run p claim = IsSound run p (bound_from claim.source claim.value)

spoke_sound : (run : Run) (p i : ℕ) (value : Option ℤ) → IfSome value (IsLowerBound run) → IsSound run p (bound_from (Spoke i) value)
spoke_sound run p i None h = tt
spoke_sound run p i (Some v) h = h

pub append_sound : {X : Type 0} (P : X → Type 0) (xs ys : List X) → AllByRecursion P xs → AllByRecursion P ys → AllByRecursion P (xs ++ ys)
append_sound P [] ys h k = k
append_sound P (x ∷ xs) ys (one, all) k = (one, append_sound P xs ys all k)

-- a reply, if it is left, with those behind it
left_or_taken : (run : Run) (p i k : ℕ) (value : Option ℤ) (rest : List Claim) (t : Bool) → IfSome value (IsLowerBound run) → AllByRecursion (IsSoundClaim run p) rest → AllByRecursion (IsSoundClaim run p) (cons_option (if t then None else Some record { source = Spoke i; put = k; value = value }) rest)
left_or_taken run p i k value rest true h all = all
left_or_taken run p i k value rest false h all = (spoke_sound run p i value h, all)

left_answers : (run : Run) (p : ℕ) (events : List Event) (i : ℕ) (answers : List Answer) → AllByRecursion (IsBelow run) answers → AllByRecursion (IsSoundClaim run p) (filter_map (left_in events i) answers)
left_answers run p events i [] all = tt
left_answers run p events i (Skip k s opened ∷ answers) (one, all) = left_answers run p events i answers all
left_answers run p events i (Reply k value ∷ answers) (one, all) =
    left_or_taken run p i k value (filter_map (left_in events i) answers) (is_taken events i k) one (left_answers run p events i answers all)

left_claims : (run : Run) (p : ℕ) (events : List Event) (i : ℕ) (logs : List SpokeLog) → AllByRecursion (AreBelow run) logs → AllByRecursion (IsSoundClaim run p) (left_from events i logs)
left_claims run p events i [] all = tt
left_claims run p events i (log ∷ logs) (one, all) = append_sound (IsSoundClaim run p) (filter_map (left_in events i) log.answers) (left_from events (i + 1) logs) (left_answers run p events i log.answers one) (left_claims run p events (i + 1) logs all)

-- the points of a put whose values agree are a plan
own_plan : (run : Run) (p : ℕ) (made : Made) → put_of run p ≡ Some made → AreAgreed run (values_of run p) → IsPlan run (plan_of run p)
own_plan run p made there agreed =
    let values : values_of run p ≡ made.put.x = let x = there in cc in
    let plan : plan_of run p ≡ made.plan = let x = there in cc in
    subst (IsPlan run) (sym plan) (agreed_is_plan run p made there (subst (AreAgreed run) values agreed))

own_sound : (run : Run) (p : ℕ) (pair : Pair) (made : Made) (ending : End) → put_of run p ≡ Some made → EndsBy run p pair ending → AllByRecursion (IsSoundClaim run p) (own_claims run p ending)
own_sound run p pair made Agreed there agreed = ((own_plan run p made there agreed, refl), tt)
own_sound run p pair made Gap there ends = tt
own_sound run p pair made Iterations there ends = tt
own_sound run p pair made (Spent s) there ends = tt

-- in a polling the hub takes nothing of its own
followed : PutsAreBalanced → (run : Run) (p : ℕ) (first : ℤ) (before : List Event) (event : Event) → MayFollow run first before event → IsSoundIn run p event
followed balanced run p first before (Put k) may = tt
followed balanced run p first before (Take (Spoke i) k value lower upper) may = spoke_sound run p i value (reply_below balanced run i k value may.0 may.1)
followed balanced run p first before (Take Hub k value lower upper) never = absurd never

each_place : {X : Type 0} (P : X → Type 0) (xs : List X) → ((n : ℕ) (x : X) → slice_get xs n ≡ Some x → P x) → AllByRecursion P xs
each_place P [] each = tt
each_place P (x ∷ xs) each = (each zero x refl, each_place P xs (λ n y e. each (suc n) y e))

-- and behind it its claims alone
one_claimed : (run : Run) (p : ℕ) (event : Event) (claim : Claim) → claim_of event ≡ Some claim → IsSoundClaim run p claim → IsSoundIn run p event
one_claimed run p (Put k) claim e h = tt
one_claimed run p (Take source k value lower upper) claim e h =
    let same : record { source = source; put = k; value = value } ≡ claim = cc in
    subst (IsSoundClaim run p) (sym same) h

closing_sound : (run : Run) (p : ℕ) (events : List Event) (claims : List Claim) → map claim_of events ≡ map Some claims → AllByRecursion (IsSoundClaim run p) claims → AllByRecursion (IsSoundIn run p) events
closing_sound run p [] claims e all = tt
closing_sound run p (event ∷ events) [] e all = absurd (let x = e in cc)
closing_sound run p (event ∷ events) (claim ∷ claims) e (one, all) =
    let head : claim_of event ≡ Some claim = let x = e in cc in
    let rest : map claim_of events ≡ map Some claims = let x = e in cc in
    (one_claimed run p event claim head one, closing_sound run p events claims rest all)

pub events_sound : PutsAreThere → PutsAreBalanced → (run : Run) (log : Log) (is : IsRun run log) → AllByRecursion (IsSoundIn run (present is.polled)) log.events
events_sound puts balanced run log is =
    let p = present is.polled in
    let made = puts run p (bounded_have_points run log.first is.first) is.some in
    let polled = each_place (IsSoundIn run p) is.polled (λ n event e. followed balanced run p log.first (take n is.polled) event (is.follow n event e)) in
    let own = own_sound run p (pair_in log.first is.polled) made.0 log.end made.1 is.ends in
    let left = left_claims run p is.polled 0 log.spokes (logs_below balanced run log is) in
    let claims = append_sound (IsSoundClaim run p) (own_claims run p log.end) (left_from is.polled 0 log.spokes) own left in
    let closing = closing_sound run p is.closing (own_claims run p log.end ++ left_from is.polled 0 log.spokes) is.rest claims in
    subst (AllByRecursion (IsSoundIn run p)) (sym is.events) (append_sound (IsSoundIn run p) is.polled is.closing polled closing)
