-- A hub that takes a reply keeps what it keeps.

use Rattle.std.proofs.Common.{arith, sym, ap, subst, ◌∙◌, ◌≡◌, ℕ, ◌+◌, List, [], ◌∷◌, ◌++◌, ℤ, Option, Some, None}
use Rattle.bound_ledger.specs.Pairs.{pair_after}
use Rattle.bound_ledger.specs.declared.ledger.Pair.{Pair}
use Rattle.hedging.specs.Hedges.{made_of}
use Rattle.hedging.specs.declared.hedge.Hedge.{Hedge}
use Rattle.put_words.specs.Puts.{put_of}
use Rattle.sp_model.specs.declared.run.Run.{Run}
use Rattle.run_log.specs.Events.{HasPair, bound_from, bounds_of, pair_in, present}
use Rattle.run_log.specs.Runs.{AreEvents, MayFollow, MayPoll}
use Rattle.run_log.specs.declared.log.Event.{Event}
use Rattle.run_log.specs.declared.log.Event.TheVariants.{Take}
use Rattle.run_log.specs.declared.log.Source.TheVariants.{Spoke}
use Rattle.log_closing.specs.Marks.{AreMarked, Marks}
use Rattle.hub_cylinder.specs.Hubs.{HaveRoom, IsHub}
use Rattle.hub_cylinder.specs.declared.hub.Hub.{Hub}
use Rattle.log_closing.proofs.Marking.{marked_take}
use Rattle.log_closing.proofs.Pushing.{behind_more, bounds_take, present_more}
use Rattle.hub_cylinder.proofs.Roomy.{roomy_take}

-- the events of a run with one take more
pub events_take : (run : Run) (first : ℤ) (events : List Event) (i k : ℕ) (value : Option ℤ) (pair : Pair) → AreEvents run first events → MayPoll run events (Spoke i) k value → pair ≡ pair_after first (bounds_of events ++ bound_from (Spoke i) value ∷ []) → AreEvents run first (events ++ Take (Spoke i) k value pair.lower pair.upper ∷ [])
events_take run first events i k value pair old may is = record {
  follow = behind_more (MayFollow run first) events (Take (Spoke i) k value pair.lower pair.upper) old.follow may;
  pairs = behind_more (HasPair first) events (Take (Spoke i) k value pair.lower pair.upper) old.pairs is;
}

-- what a take changes of a hub
pub record Took (hub hub' : Hub) (i k : ℕ) (value : Option ℤ) (pair : Pair) : Type 0 where
  pub run : hub'.run.value ≡ hub.run.value
  pub most : hub'.most ≡ hub.most
  pub hedge : hub'.hedge ≡ hub.hedge
  pub pair_is : hub'.ledger.pair ≡ pair
  pub events : hub'.events.items ≡ hub.events.items ++ Take (Spoke i) k value pair.lower pair.upper ∷ []
  pub spare : hub'.events.spare + 1 ≡ hub.events.spare
  pub marks : Marks hub.marks hub'.marks hub.most i k
  pub logs : hub'.logs.items ≡ hub.logs.items
  pub logs_room : hub'.logs.spare ≡ hub.logs.spare
  pub nothing : hub'.nothing ≡ hub.nothing
  pub end : hub'.end ≡ hub.end

module _ (run : Run) (hub hub' : Hub) (i k : ℕ) (value : Option ℤ) (pair : Pair) (h : IsHub run hub) (going : hub.end ≡ None) (may : MayPoll run hub.events.items (Spoke i) k value) (is : pair ≡ pair_after hub.hedge.bound (bounds_of hub.events.items ++ bound_from (Spoke i) value ∷ [])) (t : Took hub hub' i k value pair) where
  abbrev old : List Event
  old = hub.events.items

  abbrev e : Event
  e = Take (Spoke i) k value pair.lower pair.upper

  same_present : present hub'.events.items ≡ present old
  same_present = ap present t.events ∙ present_more old e

  same_bound : hub'.hedge.bound ≡ hub.hedge.bound
  same_bound = ap (λ (x : Hedge). x.bound) t.hedge

  pub take_keeps : IsHub run hub'
  take_keeps = record {
    of = t.run ∙ h.of;
    alone = h.alone;
    most = t.most ∙ h.most;
    some = omega (arith, same_present, h.some);
    within = omega (arith, same_present, h.within);
    number = ap (λ (x : Hedge). x.put.number) t.hedge ∙ (h.number ∙ sym same_present);
    put = ap (λ n. put_of run n) same_present ∙ (h.put ∙ ap (λ (x : Hedge). Some (made_of x)) (sym t.hedge));
    bound = h.bound ∙ ap Some (sym same_bound);
    events = subst (λ (x : ℤ × List Event). AreEvents run x.0 x.1) (λ j. (sym same_bound j, sym t.events j)) (events_take run hub.hedge.bound old i k value pair h.events may is);
    pair = t.pair_is ∙ (is ∙ (ap (pair_after hub.hedge.bound) (sym (bounds_take old (Spoke i) k value pair.lower pair.upper)) ∙ (ap (λ (x : List Event). pair_in hub.hedge.bound x) (sym t.events) ∙ ap (λ (x : ℤ). pair_in x hub'.events.items) (sym same_bound))));
    room = subst (λ (x : List Event). HaveRoom run x hub'.events.spare) (sym t.events) (roomy_take run old hub.events.spare h.room i k hub'.events.spare value pair.lower pair.upper may.0 may.2.order t.spare);
    marks = subst (λ (x : List Event × ℕ). AreMarked run x.1 hub'.marks x.0) (λ j. (sym t.events j, sym t.most j)) (marked_take run hub.most hub.marks hub'.marks old i k value pair.lower pair.upper h.marks t.marks);
    logs = t.logs ∙ h.logs;
    logs_room = t.logs_room ∙ h.logs_room;
    nothing = t.nothing ∙ h.nothing;
    ended = λ end found. absurd (let a = sym found ∙ (t.end ∙ going) in let x = a in cc);
  }
