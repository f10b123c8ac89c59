-- The last bounds of a run are above the least number of 128 bits: each is at least the first bound.
use Rattle.std.proofs.Common.{arith, ◌≡◌, ◌≤◌, ℕ, zero, suc, ◌+◌, ◌^◌, ℤ, pos, neg_ℤ, unsigned_abs, ◌≤ℤ◌, ◌<ℤ◌, List, [], ◌∷◌, ◌++◌, map, take, Option, Some, None, Bool, true, false, refl, sym, subst}
use Rattle.std.specs.Prelude.{IfSome, option_map, slice_get, if◌then◌else◌}
use Rattle.std.proofs.lemmas.Int.{fold-int_max_bounds, int_min_is, ints}
use Rattle.std.specs.Int.{int_min}
use Rattle.std.specs.List.{cons_option, filter_map, fold}
use Rattle.agreement.proofs.Agreed.{agreed_is_plan}
use Rattle.agreement.specs.Agreeing.{AreAgreed}
use Rattle.bound_ledger.specs.Pairs.{least, lower_of, upper_of}
use Rattle.log_words.specs.declared.log.Answer.{Answer}
use Rattle.log_words.specs.declared.log.Answer.TheVariants.{Reply, Skip}
use Rattle.log_words.specs.declared.log.SpokeLog.{SpokeLog}
use Rattle.put_words.specs.Puts.{Made, put_of}
use Rattle.run_log.specs.Events.{bounds_of, is_taken, pair_in, present}
use Rattle.run_log.specs.Runs.{Claim, EndsBy, IsRun, MayFollow, claim_of, left_from, left_in, own_claims, plan_of, upper_at, values_of}
use Rattle.run_log.specs.declared.log.End.{End}
use Rattle.run_log.specs.declared.log.End.TheVariants.{Agreed, Gap, Iterations, Spent}
use Rattle.run_log.specs.declared.log.Event.{Event}
use Rattle.run_log.specs.declared.log.Event.TheVariants.{Put, Take}
use Rattle.run_log.specs.declared.log.Log.{Log}
use Rattle.run_log.specs.declared.log.Source.{Source}
use Rattle.run_log.specs.declared.log.Source.TheVariants.{Hub, Spoke}
use Rattle.run_log.specs.declared.log.Upper.{Upper}
use Rattle.bound_ledger.specs.declared.ledger.Pair.{Pair}
use Rattle.sp_model.proofs.Duality.{wait_and_see_below}
use Rattle.sp_model.proofs.LeastSums.{wait_small}
use Rattle.sp_model.specs.Plans.{cost_of}
use Rattle.sp_model.specs.Problems.{scenarios, wait_and_see_of}
use Rattle.sp_model.specs.ScenarioPoints.{HavePoints}
use Rattle.sp_model.specs.declared.plan.Plan.{Plan}
use Rattle.sp_model.specs.declared.run.Run.{Run}
use Rattle.wait_and_see.proofs.Points.{bounded_have_points}

above_all : (first v : ℤ) → unsigned_abs first ≤ 2 ^ 120 → first ≤ℤ v → neg_ℤ (pos (2 ^ 127)) <ℤ v
above_all first v small le = omega (arith, ints, small, le)

first_small : (run : Run) (first : ℤ) → wait_and_see_of run ≡ Some first → unsigned_abs first ≤ 2 ^ 120
unfolding wait_and_see_of
first_small run first e = wait_small run (scenarios run) first (omega arith) e

pub lower_fits : (run : Run) (log : Log) → IsRun run log → neg_ℤ (pos (2 ^ 127)) <ℤ log.lower
lower_fits run log is =
    let bounds = fold-int_max_bounds log.first (filter_map lower_of (bounds_of log.events)) log.lower is.lower in
    above_all log.first log.lower (first_small run log.first is.first) bounds.0

-- what the hub takes of its own is at least some number
abbrev IsCostFrom : ℤ → Source → Option ℤ → Type 0
IsCostFrom first (Spoke i) value = Unit {0}
IsCostFrom first Hub None = Unit {0}
IsCostFrom first Hub (Some value) = first ≤ℤ value

abbrev IsCost : ℤ → Event → Type 0
IsCost first (Put k) = Unit {0}
IsCost first (Take source k value lower upper) = IsCostFrom first source value

abbrev AreCosts : ℤ → List Event → Type 0
AreCosts first [] = Unit {0}
AreCosts first (event ∷ events) = IsCost first event × AreCosts first events

abbrev AreClaims : ℤ → List Claim → Type 0
AreClaims first [] = Unit {0}
AreClaims first (claim ∷ claims) = IsCostFrom first claim.source claim.value × AreClaims first claims

abbrev uppers : List Event → List ℤ
uppers events = filter_map upper_of (bounds_of events)

least_of_both : (first a b : ℤ) → first ≤ℤ a → first ≤ℤ b → first ≤ℤ int_min a b
least_of_both first a b h k = let m = int_min_is a b in omega (arith, ints, h, k, m)

min_above : (first m : ℤ) (events : List Event) → first ≤ℤ m → AreCosts first events → first ≤ℤ fold int_min m (uppers events)
min_above first m [] h all = h
min_above first m (Put k ∷ events) h (one, all) = min_above first m events h all
min_above first m (Take (Spoke i) k None lower upper ∷ events) h (one, all) = min_above first m events h all
min_above first m (Take (Spoke i) k (Some value) lower upper ∷ events) h (one, all) = min_above first m events h all
min_above first m (Take Hub k None lower upper ∷ events) h (one, all) = min_above first m events h all
min_above first m (Take Hub k (Some value) lower upper ∷ events) h (one, all) = min_above first (int_min m value) events (least_of_both first m value h one) all

some_is : (a b : ℤ) → Some a ≡ Some b → a ≡ b
some_is a b e = cc

least_above : (first v : ℤ) (events : List Event) → AreCosts first events → least (uppers events) ≡ Some v → first ≤ℤ v
least_above first v [] all e = absurd (let x = e in cc)
least_above first v (Put k ∷ events) (one, all) e = least_above first v events all e
least_above first v (Take (Spoke i) k None lower upper ∷ events) (one, all) e = least_above first v events all e
least_above first v (Take (Spoke i) k (Some value) lower upper ∷ events) (one, all) e = least_above first v events all e
least_above first v (Take Hub k None lower upper ∷ events) (one, all) e = least_above first v events all e
least_above first v (Take Hub k (Some value) lower upper ∷ events) (one, all) e =
    subst (λ w. first ≤ℤ w) (some_is (fold int_min value (uppers events)) v e) (min_above first value events one all)

costs_append : (first : ℤ) (xs ys : List Event) → AreCosts first xs → AreCosts first ys → AreCosts first (xs ++ ys)
costs_append first [] ys h k = k
costs_append first (x ∷ xs) ys (one, all) k = (one, costs_append first xs ys all k)

-- in a polling the hub takes nothing of its own
followed : (run : Run) (first : ℤ) (before : List Event) (event : Event) → MayFollow run first before event → IsCost first event
followed run first before (Put k) may = tt
followed run first before (Take (Spoke i) k value lower upper) may = tt
followed run first before (Take Hub k None lower upper) never = tt
followed run first before (Take Hub k (Some value) lower upper) never = absurd never

polled_costs : (first : ℤ) (events : List Event) → ((n : ℕ) (event : Event) → slice_get events n ≡ Some event → IsCost first event) → AreCosts first events
polled_costs first [] each = tt
polled_costs first (event ∷ events) each = (each zero event refl, polled_costs first events (λ n other e. each (suc n) other e))

-- and behind it its claims alone
one_claimed : (first : ℤ) (event : Event) (claim : Claim) → claim_of event ≡ Some claim → IsCostFrom first claim.source claim.value → IsCost first event
one_claimed first (Put k) claim e h = tt
one_claimed first (Take source k value lower upper) claim e h =
    let same : record { source = source; put = k; value = value } ≡ claim = cc in
    subst (λ (c : Claim). IsCostFrom first c.source c.value) (sym same) h

closing_costs : (first : ℤ) (events : List Event) (claims : List Claim) → map claim_of events ≡ map Some claims → AreClaims first claims → AreCosts first events
closing_costs first [] claims e all = tt
closing_costs first (event ∷ events) [] e all = absurd (let x = e in cc)
closing_costs first (event ∷ events) (claim ∷ claims) e (one, all) =
    let head : claim_of event ≡ Some claim = let x = e in cc in
    let rest : map claim_of events ≡ map Some claims = let x = e in cc in
    (one_claimed first event claim head one, closing_costs first events claims rest all)

claims_append : (first : ℤ) (xs ys : List Claim) → AreClaims first xs → AreClaims first ys → AreClaims first (xs ++ ys)
claims_append first [] ys h k = k
claims_append first (x ∷ xs) ys (one, all) k = (one, claims_append first xs ys all k)

-- a reply, if it is left, with those behind it
left_or_taken : (first : ℤ) (i k : ℕ) (value : Option ℤ) (rest : List Claim) (t : Bool) → AreClaims first rest → AreClaims first (cons_option (if t then None else Some record { source = Spoke i; put = k; value = value }) rest)
left_or_taken first i k value rest true all = all
left_or_taken first i k value rest false all = (tt, all)

left_answers : (first : ℤ) (events : List Event) (i : ℕ) (answers : List Answer) → AreClaims first (filter_map (left_in events i) answers)
left_answers first events i [] = tt
left_answers first events i (Skip k s opened ∷ answers) = left_answers first events i answers
left_answers first events i (Reply k value ∷ answers) =
    left_or_taken first i k value (filter_map (left_in events i) answers) (is_taken events i k) (left_answers first events i answers)

left_claims : (first : ℤ) (events : List Event) (i : ℕ) (logs : List SpokeLog) → AreClaims first (left_from events i logs)
left_claims first events i [] = tt
left_claims first events i (log ∷ logs) = claims_append first (filter_map (left_in events i) log.answers) (left_from events (i + 1) logs) (left_answers first events i log.answers) (left_claims first events (i + 1) logs)

-- the cost of a put whose values agree is at least the first bound
own_cost : (run : Run) (p : ℕ) (first : ℤ) (made : Made) → put_of run p ≡ Some made → wait_and_see_of run ≡ Some first → AreAgreed run (values_of run p) → first ≤ℤ cost_of run (plan_of run p)
own_cost run p first made there e agreed =
    let values : values_of run p ≡ made.put.x = let x = there in cc in
    let plan : plan_of run p ≡ made.plan = let x = there in cc in
    let P : Plan → Type 0 = λ plan. first ≤ℤ cost_of run plan in
    subst P (sym plan) (wait_and_see_below run first made.plan e (agreed_is_plan run p made there (subst (AreAgreed run) values agreed)))

own_is : (run : Run) (p : ℕ) (pair : Pair) (first : ℤ) (made : Made) (ending : End) → put_of run p ≡ Some made → wait_and_see_of run ≡ Some first → EndsBy run p pair ending → AreClaims first (own_claims run p ending)
own_is run p pair first made Agreed there e agreed = (own_cost run p first made there e agreed, tt)
own_is run p pair first made Gap there e ends = tt
own_is run p pair first made Iterations there e ends = tt
own_is run p pair first made (Spent s) there e ends = tt

events_cost : (run : Run) (log : Log) (is : IsRun run log) (made : Made) → put_of run (present is.polled) ≡ Some made → AreCosts log.first log.events
events_cost run log is made there =
    let first = log.first in
    let polled = polled_costs first is.polled (λ n event e. followed run first (take n is.polled) event (is.follow n event e)) in
    let own = own_is run (present is.polled) (pair_in first is.polled) first made log.end there is.first is.ends in
    let claims = claims_append first (own_claims run (present is.polled) log.end) (left_from is.polled 0 log.spokes) own (left_claims first is.polled 0 log.spokes) in
    let closing = closing_costs first is.closing (own_claims run (present is.polled) log.end ++ left_from is.polled 0 log.spokes) is.rest claims in
    subst (AreCosts first) (sym is.events) (costs_append first is.polled is.closing polled closing)

upper_above : (run : Run) (p : ℕ) (first : ℤ) (last : Option ℤ) (told : Option Upper) → ((v : ℤ) → last ≡ Some v → first ≤ℤ v) → unsigned_abs first ≤ 2 ^ 120 → told ≡ option_map (upper_at run p) last → IfSome told (λ (upper : Upper). neg_ℤ (pos (2 ^ 127)) <ℤ upper.value)
upper_above run p first None told all small e = subst (λ told. IfSome told (λ (upper : Upper). neg_ℤ (pos (2 ^ 127)) <ℤ upper.value)) (sym e) tt
upper_above run p first (Some v) told all small e = subst (λ told. IfSome told (λ (upper : Upper). neg_ℤ (pos (2 ^ 127)) <ℤ upper.value)) (sym e) (above_all first v small (all v refl))

-- each put is there where each scenario has a point
abbrev PutsAreThere : Type 0
PutsAreThere = (run : Run) (k : ℕ) → HavePoints run (scenarios run) → 1 ≤ k → (made : Made) × (put_of run k ≡ Some made)

pub upper_fits : (run : Run) (log : Log) → PutsAreThere → IsRun run log → IfSome log.upper (λ (upper : Upper). neg_ℤ (pos (2 ^ 127)) <ℤ upper.value)
upper_fits run log puts is =
    let there = puts run (present is.polled) (bounded_have_points run log.first is.first) is.some in
    upper_above run (present is.polled) log.first (least (uppers log.events)) log.upper
    (λ v e. least_above log.first v log.events (events_cost run log is there.0 there.1) e) (first_small run log.first is.first) is.upper
