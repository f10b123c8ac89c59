-- The log that a hub closes is that of a run.

use Rattle.std.proofs.Common.{arith, refl, sym, ap, subst, ◌∙◌, ◌≡◌, ◌≢◌, ℕ, ◌+◌, ◌*◌, ◌<◌, ◌≤◌, Bool, true, false, List, [], ◌++◌, length, slice_get, get_or, ℤ, ◌≤ℤ◌, Option, Some, None, option_map, All, if◌then◌else◌}
use Rattle.std.proofs.lemmas.Bool.Decides.{Decides-int_eq}
use Rattle.std.proofs.lemmas.List.{get_or-map, length-map}
use Rattle.std.proofs.lemmas.List.Elements.{All-contains, Contains-get_or, recursion_from_All}
use Rattle.std.proofs.lemmas.Option.{slice_get-get_or, slice_get-map}
use Rattle.std.specs.List.{Contains}
use Rattle.std.specs.Option.{is_some, option_map_or}
use Rattle.std.specs.Ordering.{int_eq}
use Rattle.base_words.proofs.FirstAnswers.{same_some}
use Rattle.bound_ledger.specs.declared.ledger.Pair.{Pair}
use Rattle.agreement.proofs.Agreed.{agreed_is_plan}
use Rattle.hedging.specs.Hedges.{made_of}
use Rattle.hedging.specs.declared.hedge.Hedge.{Hedge}
use Rattle.sp_model.specs.Plans.{IsPlan}
use Rattle.log_words.specs.Replies.{reply_of}
use Rattle.log_words.specs.declared.log.Answer.{Answer}
use Rattle.log_words.specs.declared.log.Answer.TheVariants.{Reply, Skip}
use Rattle.log_words.specs.declared.log.SpokeEnd.{SpokeEnd}
use Rattle.log_words.specs.declared.log.SpokeLog.{SpokeLog}
use Rattle.put_words.specs.Puts.{Made, put_of}
use Rattle.sp_model.specs.declared.plan.Multipliers.{Multipliers}
use Rattle.sp_model.specs.declared.run.Run.{Run}
use Rattle.lagrangian_spoke.specs.Answering.{AreAnswers, IsAnswer}
use Rattle.run_log.specs.Runs.{IsSpokeLog}
use Rattle.run_log.specs.Events.{pair_in, present}
use Rattle.run_log.specs.Runs.{BacksLower, Claim, EndsBy, IsAnswered, IsFirstPut, IsRun, left_from, multipliers_of, own_claims, plan_of, upper_at}
use Rattle.run_log.specs.declared.log.End.{End}
use Rattle.run_log.specs.declared.log.End.TheVariants.{Agreed, Gap, Iterations, Spent}
use Rattle.run_log.specs.declared.log.Event.{Event}
use Rattle.run_log.specs.declared.log.Log.{Log}
use Rattle.log_closing.specs.Closings.{Advances, AreSpokeEnds, HasPlaces, IsAtMost, IsFoundFirst, IsOther, TakenBehind, multipliers_behind, found_in, left_behind, logs_of}
use Rattle.hub_cylinder.specs.Hubs.{Closes, IsHub, with_plan}
use Rattle.log_closing.specs.declared.closing.Closing.{Closing}
use Rattle.log_closing.specs.declared.gathering.Found.{Found}
use Rattle.log_closing.proofs.Advancing.{advance_both}
use Rattle.hub_cylinder.specs.declared.hub.Hub.{Hub}
use Rattle.hub_cylinder.proofs.GoingOn.{agreed_there}
use Rattle.log_closing.proofs.FoundPuts.{Hands, found_is, multipliers_made}
use Rattle.log_closing.proofs.Leaving.{answers_places, left_are}
use Rattle.log_closing.proofs.Lowest.{Stands, last_is, reply_most}

-- the points of a hedge that is a put
pub plan_made : (run : Run) (k : ℕ) (hedge : Hedge) → put_of run k ≡ Some (made_of hedge) → hedge.plan ≡ plan_of run k
plan_made run k hedge e = sym (ap (λ o. option_map_or (λ (made : Made). made.plan) o (record { points = [] })) e)

-- the hub's own claims are at most one
pub own_few : (run : Run) (p : ℕ) (end : End) → length (own_claims run p end) ≤ 1
own_few run p Agreed = omega arith
own_few run p Gap = omega arith
own_few run p Iterations = omega arith
own_few run p (Spent s) = omega arith

pub some_end : (o : Option End) → o ≢ None → is_some o ≡ true
some_end None other = absurd (other refl)
some_end (Some end) other = refl

-- a hub that has ended agreed has a plan
pub agreed_plan : (run : Run) (hub : Hub) (end : End) → IsHub run hub → hub.end ≡ Some end → end ≡ Agreed → IsPlan run hub.hedge.plan
agreed_plan run hub end h e a =
    let k = present hub.events.items in
    let ends : EndsBy run k (pair_in hub.hedge.bound hub.events.items) Agreed = subst (λ (x : End). EndsBy run k (pair_in hub.hedge.bound hub.events.items) x) a (h.ended end e) in
    agreed_is_plan run k (made_of hub.hedge) h.put (agreed_there run hub h ends)

-- what the spokes hand over has places, and a mark for each
module _ (run : Run) (hub : Hub) (ends : List SpokeEnd) (h : IsHub run hub) (are : AreSpokeEnds run (present hub.events.items) ends) where
  log_right : (i : ℕ) (log : SpokeLog) (o : Option SpokeEnd) → slice_get ends i ≡ o → option_map (λ (x : SpokeEnd). x.log) o ≡ Some log → AreAnswers run i log.answers
  log_right i log None q f = absurd (let x = f in cc)
  log_right i log (Some end) q f = subst (λ (l : SpokeLog). AreAnswers run i l.answers) (same_some f) (are.each i end q).log.answers

  pub ends_places : All (HasPlaces hub.most) (logs_of ends)
  ends_places n d l =
      let log = get_or (logs_of ends) n d in
      answers_places run hub.most n log h.most (log_right n log (slice_get ends n) refl (sym (slice_get-map (λ (x : SpokeEnd). x.log) ends n) ∙ slice_get-get_or (logs_of ends) n d l))

  pub ends_there : length hub.marks ≡ length ends * (hub.most + 1)
  ends_there = h.marks.long ∙ ap (λ (n : ℕ). n * (hub.most + 1)) (sym are.many)

  pub ends_left : left_behind hub.most hub.marks 0 (logs_of ends) ≡ left_from hub.events.items 0 (logs_of ends)
  ends_left = left_are run hub.most hub.marks hub.events.items h.marks 0 (logs_of ends) (omega (arith, are.many, length-map ends (λ (x : SpokeEnd). x.log))) (recursion_from_All (HasPlaces hub.most) (logs_of ends) ends_places)

  -- both steps of the closing
  pub all_taken : (why : End) (behind last : Closing) (marks : List Bool) (given : List SpokeEnd) → marks ≡ hub.marks → given ≡ ends → Advances hub.hedge.bound (record { ledger = hub.ledger; events = hub.events }) behind (own_claims run hub.hedge.put.number why) → Advances hub.hedge.bound behind last (left_behind hub.most marks 0 (logs_of given)) → Advances hub.hedge.bound (record { ledger = hub.ledger; events = hub.events }) last (own_claims run (present hub.events.items) why ++ left_from hub.events.items 0 (logs_of ends))
  all_taken why behind last marks given is same own left =
      let start : Closing = record { ledger = hub.ledger; events = hub.events } in
      let rest : left_behind hub.most marks 0 (logs_of given) ≡ left_from hub.events.items 0 (logs_of ends) = ap (λ (x : List Bool × List SpokeEnd). left_behind hub.most x.0 0 (logs_of x.1)) (λ i. (is i, same i)) ∙ ends_left in
      advance_both hub.hedge.bound start behind last (own_claims run (present hub.events.items) why) (left_from hub.events.items 0 (logs_of ends))
      (subst (λ (n : ℕ). Advances hub.hedge.bound start behind (own_claims run n why)) h.number own)
      (subst (λ (xs : List Claim). Advances hub.hedge.bound behind last xs) rest left)

module _ (run : Run) (hub : Hub) (ends : List SpokeEnd) (why : End) (new : List Event) (pair : Pair) (h : IsHub run hub) (stopped : hub.end ≡ Some why) (are : AreSpokeEnds run (present hub.events.items) ends) (answered : All (IsAnswered (logs_of ends)) hub.events.items) (taken : TakenBehind hub.hedge.bound hub.events.items new (own_claims run (present hub.events.items) why ++ left_from hub.events.items 0 (logs_of ends))) (pair_is : pair ≡ pair_in hub.hedge.bound new) where
  abbrev events : List Event
  events = hub.events.items

  abbrev logs : List SpokeLog
  logs = logs_of ends

  abbrev first : ℤ
  first = hub.hedge.bound

  abbrev p : ℕ
  p = present events

  -- the log of spoke i is what it should be
  spoke_is : (i : ℕ) (log : SpokeLog) → slice_get logs i ≡ Some log → IsSpokeLog run p i log
  spoke_is i log e = by_end (slice_get ends i) refl (sym (slice_get-map (λ (x : SpokeEnd). x.log) ends i) ∙ e)
    where
      by_end : (o : Option SpokeEnd) → slice_get ends i ≡ o → option_map (λ (x : SpokeEnd). x.log) o ≡ Some log → IsSpokeLog run p i log
      by_end None q f = absurd (let x = f in cc)
      by_end (Some end) q f = subst (λ l. IsSpokeLog run p i l) (same_some f) (are.each i end q).log

  right : (i : ℕ) (log : SpokeLog) → Stands logs i log → AreAnswers run i log.answers
  right i log (l, is) = (spoke_is i log (slice_get-get_or logs i log l ∙ ap Some is)).answers

  last_same : (pair_in first (events ++ taken.closing)).lower ≡ pair.lower
  last_same = sym (ap (λ (q : Pair). q.lower) (pair_is ∙ ap (pair_in first) taken.events))

  answer_most : (i : ℕ) (log : SpokeLog) (a : Answer) → Stands logs i log → Contains log.answers a → IsAtMost pair.lower a
  answer_most i log (Reply k None) stands has = tt
  answer_most i log (Reply k (Some v)) stands has = subst (λ z. v ≤ℤ z) last_same (reply_most run first p why events taken.closing logs h.events.follow answered taken.taken right i k v log stands has)
  answer_most i log (Skip k s opened) stands has = tt

  hands_at : (i : ℕ) (d : SpokeEnd) → i < length ends → Hands run pair.lower (get_or ends i d)
  hands_at i d l =
      let end = get_or ends i d in
      let is = are.each i end (slice_get-get_or ends i d l) in
      let stands : Stands logs i end.log = (omega (arith, l, length-map ends (λ (x : SpokeEnd). x.log)), get_or-map (λ (x : SpokeEnd). x.log) ends i d end.log l) in
      record {
        rising = is.log.answers.rising;
        backing = is.backing;
        most = λ n e m. answer_most i end.log (get_or end.log.answers n e) stands (Contains-get_or end.log.answers n e m);
      }

  found_here : IsFoundFirst run logs pair.lower (found_in pair.lower ends)
  found_here = found_is run pair.lower ends (recursion_from_All (Hands run pair.lower) ends hands_at)

  -- a reply with the bound has the multipliers that were found
  first_made : (found : Found) → IsFirstPut logs pair.lower found.put → ((made : Made) → put_of run found.put ≡ Some made → found.multipliers ≡ made.put.multipliers) → found.multipliers ≡ multipliers_of run found.put
  first_made found is backs =
      let there = is.there in
      let defined : Some pair.lower ≡ reply_of run there.0 found.put = (All-contains (IsAnswer run there.0) there.1.answers (Reply found.put (Some pair.lower)) (right there.0 there.1 (there.2, there.3)).right there.4).1 in
      multipliers_made run there.0 found.put pair.lower found.multipliers (sym defined) backs

  others_not : (i k : ℕ) (log : SpokeLog) → IsFoundFirst run logs pair.lower None → Stands logs i log → Contains log.answers (Reply k (Some pair.lower)) → ⊥
  others_not i k log none (l, is) has =
      All-contains (IsOther pair.lower) log.answers (Reply k (Some pair.lower)) (All-contains (λ (x : SpokeLog). All (IsOther pair.lower) x.answers) logs log none (i, l, is)) has refl

  backs : (found : Option Found) → IsFoundFirst run logs pair.lower found → BacksLower run logs first pair.lower (multipliers_behind hub.nothing first pair.lower found)
  backs None is = record {
    at_first = λ e. h.nothing;
    later = λ other.
        let reply = last_is run first p why events taken.closing logs h.events.follow answered taken.taken right (λ e. other (sym last_same ∙ e)) in
        absurd (others_not reply.spoke reply.put reply.log is reply.stands (subst (λ v. Contains reply.log.answers (Reply reply.put (Some v))) last_same reply.has));
  }
  backs (Some found) is = by_first (int_eq pair.lower first) refl
    where
      by_first : (b : Bool) → int_eq pair.lower first ≡ b → BacksLower run logs first pair.lower (if b then hub.nothing else found.multipliers)
      by_first true e = record { at_first = λ f. h.nothing; later = λ other. absurd (other ((Decides-int_eq pair.lower first).0 e)) }
      by_first false e = record {
        at_first = λ f. absurd (let t = sym ((Decides-int_eq pair.lower first).1 f) ∙ e in let x = t in cc);
        later = λ other. (found.put, is.0, first_made found is.0 is.1);
      }

  abbrev log : Log
  log = record {
    first = first;
    events = new;
    end = why;
    spokes = logs;
    lower = pair.lower;
    multipliers = multipliers_behind hub.nothing first pair.lower (found_in pair.lower ends);
    upper = option_map (with_plan hub.hedge.plan) pair.upper;
  }

  plan_is : hub.hedge.plan ≡ plan_of run p
  plan_is = sym (ap (λ o. option_map_or (λ (made : Made). made.plan) o (record { points = [] })) h.put)

  pub closed_run : IsRun run log
  closed_run = record {
    polled = events;
    closing = taken.closing;
    events = taken.events;
    first = h.bound;
    some = h.some;
    alone = h.alone;
    many = length-map ends (λ (x : SpokeEnd). x.log) ∙ are.many;
    spokes = spoke_is;
    follow = h.events.follow;
    answered = answered;
    ends = h.ended why stopped;
    rest = taken.taken;
    pairs = taken.pairs h.events.pairs;
    lower = ap (λ (q : Pair). q.lower) pair_is;
    multipliers = backs (found_in pair.lower ends) found_here;
    upper = ap (λ x. option_map (with_plan x) pair.upper) plan_is ∙ ap (λ (q : Pair). option_map (upper_at run p) q.upper) pair_is;
  }

  pub closed : Closes run hub ends log
  closed = record { first = refl; closing = taken.closing; events = taken.events; end = stopped; spokes = refl; rest = taken.taken }

  -- the log that the parts make
  module _ (result : Log) (spokes : List SpokeLog) (m : Multipliers) (is : result ≡ record { first = first; events = new; end = why; spokes = spokes; lower = pair.lower; multipliers = m; upper = option_map (with_plan hub.hedge.plan) pair.upper }) (all : spokes ≡ logs) (backing : m ≡ multipliers_behind hub.nothing first pair.lower (found_in pair.lower ends)) where
    result_is : result ≡ log
    result_is = is ∙ (λ i. record { first = first; events = new; end = why; spokes = all i; lower = pair.lower; multipliers = backing i; upper = option_map (with_plan hub.hedge.plan) pair.upper })

    pub made_run : IsRun run result
    made_run = subst (IsRun run) (sym result_is) closed_run

    pub made_closes : Closes run hub ends result
    made_closes = subst (Closes run hub ends) (sym result_is) closed
