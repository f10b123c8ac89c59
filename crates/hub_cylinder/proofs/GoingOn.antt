-- A hub that makes the next put, or ends, keeps what it keeps.

use Rattle.std.proofs.Common.{arith, refl, sym, ap, subst, ◌∙◌, ◌≡◌, ◌↔◌, ℕ, ◌+◌, ◌<◌, ◌≤◌, Bool, true, false, IsTrue, List, [], ◌∷◌, ◌++◌, ℤ, Option, Some, None}
use Rattle.std.specs.Option.{option_map_or}
use Rattle.agreement.specs.Agreeing.{AreAgreed, AreWhole}
use Rattle.base_words.proofs.Booleans.{not_both}
use Rattle.base_words.proofs.FirstAnswers.{same_some}
use Rattle.bound_ledger.specs.Pairs.{pair_after}
use Rattle.branch_bound.specs.PlainSearch.{ref_count}
use Rattle.put_words.specs.Hedged.{hedged_in}
use Rattle.bound_ledger.specs.declared.ledger.Pair.{Pair}
use Rattle.hedging.specs.Hedges.{IsHedgedSpent, made_of}
use Rattle.hedging.specs.declared.hedge.Hedge.{Hedge}
use Rattle.put_words.specs.NodeSums.{AreInside}
use Rattle.put_words.specs.Puts.{Made, put_of}
use Rattle.put_words.proofs.Inside.{put_inside}
use Rattle.sp_model.specs.declared.run.Run.{Run}
use Rattle.run_log.specs.Events.{HasPair, pair_in, present}
use Rattle.run_log.specs.Runs.{AreEvents, EndsBy, GoesOn, IsClose, IsSpentNext, MayFollow, MayPut, values_of}
use Rattle.run_log.specs.declared.log.End.{End}
use Rattle.run_log.specs.declared.log.End.TheVariants.{Agreed, Gap, Iterations, Spent}
use Rattle.run_log.specs.declared.log.Event.{Event}
use Rattle.run_log.specs.declared.log.Event.TheVariants.{Put}
use Rattle.log_closing.specs.Marks.{AreMarked}
use Rattle.hub_cylinder.specs.Hubs.{EndsByTest, HasStopped, HaveRoom, IsHub}
use Rattle.hub_cylinder.specs.declared.hub.Hub.{Hub}
use Rattle.log_closing.proofs.Marking.{marked_put}
use Rattle.log_closing.proofs.Pushing.{behind_more, bounds_put, present_more}
use Rattle.hub_cylinder.proofs.Roomy.{roomy_put}

-- the values of a put that is there
pub values_made : (run : Run) (k : ℕ) (made : Made) → put_of run k ≡ Some made → values_of run k ≡ made.put.x
values_made run k made e = ap (λ (o : Option Made). option_map_or (λ (m : Made). m.put.x) o []) e

pub hub_inside : (run : Run) (hub : Hub) → IsHub run hub → AreInside run hub.hedge.put.x
hub_inside run hub h = put_inside run (present hub.events.items) (made_of hub.hedge) h.put

pub hub_whole : (run : Run) (hub : Hub) → IsHub run hub → AreWhole run hub.hedge.put.x
hub_whole run hub h = (hub_inside run hub h).long

-- a hub whose present put stands in all windows
pub wrote_keeps : (run : Run) (hub : Hub) → IsHub run hub → IsHub run (record hub { wrote = true })
wrote_keeps run hub h = record {
  of = h.of;
  alone = h.alone;
  most = h.most;
  some = h.some;
  within = h.within;
  number = h.number;
  put = h.put;
  bound = h.bound;
  events = h.events;
  pair = h.pair;
  room = h.room;
  marks = h.marks;
  logs = h.logs;
  logs_room = h.logs_room;
  nothing = h.nothing;
  ended = h.ended;
}

module _ (run : Run) (hub : Hub) (h : IsHub run hub) where
  abbrev old : List Event
  old = hub.events.items

  hub_values : values_of run (present old) ≡ hub.hedge.put.x
  hub_values = values_made run (present old) (made_of hub.hedge) h.put

  pub agreed_here : AreAgreed run hub.hedge.put.x → AreAgreed run (values_of run (present old))
  agreed_here a = subst (AreAgreed run) (sym hub_values) a

  pub agreed_there : AreAgreed run (values_of run (present old)) → AreAgreed run hub.hedge.put.x
  agreed_there a = subst (AreAgreed run) hub_values a

  pub put_here : put_of run hub.hedge.put.number ≡ Some (made_of hub.hedge)
  put_here = ap (λ n. put_of run n) h.number ∙ h.put

  -- what each test tells
  not_agreed : (b : Bool) → IsTrue b ↔ AreAgreed run hub.hedge.put.x → b ≡ false → AreAgreed run (values_of run (present old)) → ⊥
  not_agreed b is off a = not_both b (is.1 (agreed_there a)) off

  pub ends_agreed : (b : Bool) → IsTrue b ↔ AreAgreed run hub.hedge.put.x → b ≡ true → EndsByTest run (present old) hub.ledger.pair Agreed
  ends_agreed b is on = agreed_here (is.0 on)

  module _ (a b : Bool) (agreed : IsTrue a ↔ AreAgreed run hub.hedge.put.x) (apart : a ≡ false) (close : IsTrue b ↔ IsClose run hub.ledger.pair) where
    pub ends_close : b ≡ true → EndsByTest run (present old) hub.ledger.pair Gap
    ends_close on = (not_agreed a agreed apart, close.0 on)

    pub ends_last : b ≡ false → run.options.iterations < hub.hedge.put.number → EndsByTest run (present old) hub.ledger.pair Iterations
    ends_last wide last = (not_agreed a agreed apart, λ is. not_both b (close.1 is) wide, omega (arith, last, h.number, h.within))

    pub goes_on : b ≡ false → hub.hedge.put.number ≤ run.options.iterations → GoesOn run (present old) hub.ledger.pair
    goes_on wide more = record { apart = not_agreed a agreed apart; wide = λ is. not_both b (close.1 is) wide; more = omega (arith, more, h.number) }

  -- a spent search of the next put
  pub spent_next : (s opened : ℕ) → IsHedgedSpent run hub.hedge.put s opened → IsSpentNext run (present old) s
  spent_next s opened is = record {
    there = is.there;
    more = λ made e.
        let same : made_of hub.hedge ≡ made = same_some (sym h.put ∙ e) in
        subst (λ (m : Made). run.options.budget < ref_count (hedged_in run m.put.multipliers m.put.x s)) same is.more;
  }

  -- what the end is, by the pair of the events
  pub ends_here : (end : End) → EndsBy run (present old) hub.ledger.pair end → EndsBy run (present old) (pair_in hub.hedge.bound old) end
  ends_here end is = subst (λ (p : Pair). EndsBy run (present old) p end) h.pair is

  pub stop_keeps : (end : End) → EndsBy run (present old) hub.ledger.pair end → IsHub run (record hub { end = Some end })
  stop_keeps end is = record {
    of = h.of;
    alone = h.alone;
    most = h.most;
    some = h.some;
    within = h.within;
    number = h.number;
    put = h.put;
    bound = h.bound;
    events = h.events;
    pair = h.pair;
    room = h.room;
    marks = h.marks;
    logs = h.logs;
    logs_room = h.logs_room;
    nothing = h.nothing;
    ended = λ other found. subst (λ (x : End). EndsBy run (present old) (pair_in hub.hedge.bound old) x) (same_some found) (ends_here end is);
  }

  pub has_stopped : (end : End) → EndsBy run (present old) hub.ledger.pair end → HasStopped run hub (record hub { end = Some end })
  has_stopped end is = record { why = end; end = refl; ends = is; same = refl }

-- a hub whose next put isn't made
module _ (run : Run) (hub : Hub) (h : IsHub run hub) (hedge : Hedge) (same : hedge ≡ hub.hedge) where
  pub unmade_is : record hub { hedge = hedge } ≡ hub
  unmade_is = ap (λ (x : Hedge). record hub { hedge = x }) same

  pub unmade_keeps : IsHub run (record hub { hedge = hedge })
  unmade_keeps = subst (IsHub run) (sym unmade_is) h

  module _ (s opened : ℕ) (goes : GoesOn run (present hub.events.items) hub.ledger.pair) (spent : IsHedgedSpent run hub.hedge.put s opened) where
    why : EndsBy run (present hub.events.items) hub.ledger.pair (Spent s)
    why = (goes, spent_next run hub h s opened spent)

    pub spent_keeps : IsHub run (record hub { hedge = hedge; end = Some (Spent s) })
    spent_keeps = subst (λ (x : Hedge). IsHub run (record hub { hedge = x; end = Some (Spent s) })) (sym same) (stop_keeps run hub h (Spent s) why)

    pub spent_stops : HasStopped run hub (record hub { hedge = hedge; end = Some (Spent s) })
    spent_stops = subst (λ (x : Hedge). HasStopped run hub (record hub { hedge = x; end = Some (Spent s) })) (sym same) (has_stopped run hub h (Spent s) why)

-- a test that ends a run is a reason
pub by_test : (run : Run) (k : ℕ) (pair : Pair) (end : End) → EndsByTest run k pair end → EndsBy run k pair end
by_test run k pair Agreed is = is
by_test run k pair Gap is = is
by_test run k pair Iterations is = is
by_test run k pair (Spent s) is = absurd is

-- what the next put changes of a hub
pub record Went (run : Run) (hub hub' : Hub) : Type 0 where
  pub run_is : hub'.run.value ≡ hub.run.value
  pub most : hub'.most ≡ hub.most
  pub made : put_of run hub'.hedge.put.number ≡ Some (made_of hub'.hedge)
  pub number : hub'.hedge.put.number ≡ hub.hedge.put.number + 1
  pub bound : hub'.hedge.bound ≡ hub.hedge.bound
  pub pair : hub'.ledger.pair ≡ hub.ledger.pair
  pub events : hub'.events.items ≡ hub.events.items ++ Put hub'.hedge.put.number ∷ []
  pub spare : hub'.events.spare + 1 ≡ hub.events.spare
  pub marks : hub'.marks ≡ hub.marks
  pub logs : hub'.logs.items ≡ hub.logs.items
  pub logs_room : hub'.logs.spare ≡ hub.logs.spare
  pub nothing : hub'.nothing ≡ hub.nothing
  pub end : hub'.end ≡ None

module _ (run : Run) (hub hub' : Hub) (h : IsHub run hub) (goes : GoesOn run (present hub.events.items) hub.ledger.pair) (w : Went run hub hub') where
  abbrev before : List Event
  before = hub.events.items

  abbrev e : Event
  e = Put (present before + 1)

  number_is : hub'.hedge.put.number ≡ present before + 1
  number_is = omega (arith, w.number, h.number)

  pub events_are : hub'.events.items ≡ before ++ e ∷ []
  events_are = w.events ∙ ap (λ n. before ++ Put n ∷ []) number_is

  now : present hub'.events.items ≡ present before + 1
  now = ap present events_are ∙ present_more before e

  may : MayPut run hub.hedge.bound before (present before + 1)
  may = record { next = refl; goes_on = λ some. subst (λ (p : Pair). GoesOn run (present before) p) h.pair goes }

  more_events : AreEvents run hub.hedge.bound (before ++ e ∷ [])
  more_events = record { follow = behind_more (MayFollow run hub.hedge.bound) before e h.events.follow may; pairs = behind_more (HasPair hub.hedge.bound) before e h.events.pairs tt }

  pub go_keeps : IsHub run hub'
  go_keeps = record {
    of = w.run_is ∙ h.of;
    alone = h.alone;
    most = w.most ∙ h.most;
    some = omega (arith, now);
    within = omega (arith, now, goes.more);
    number = number_is ∙ sym now;
    put = ap (λ n. put_of run n) (now ∙ sym number_is) ∙ w.made;
    bound = h.bound ∙ ap Some (sym w.bound);
    events = subst (λ (x : ℤ × List Event). AreEvents run x.0 x.1) (λ j. (sym w.bound j, sym events_are j)) more_events;
    pair = w.pair ∙ (h.pair ∙ (ap (pair_after hub.hedge.bound) (sym (bounds_put before (present before + 1))) ∙ (ap (λ (x : List Event). pair_in hub.hedge.bound x) (sym events_are) ∙ ap (λ (x : ℤ). pair_in x hub'.events.items) (sym w.bound))));
    room = subst (λ (x : List Event). HaveRoom run x hub'.events.spare) (sym events_are) (roomy_put run before hub.events.spare h.room hub'.events.spare w.spare);
    marks = subst (λ (x : List Event × (ℕ × List Bool)). AreMarked run x.1.0 x.1.1 x.0) (λ j. (sym events_are j, (sym w.most j, sym w.marks j))) (marked_put run hub.most hub.marks before (present before + 1) h.marks);
    logs = w.logs ∙ h.logs;
    logs_room = w.logs_room ∙ h.logs_room;
    nothing = w.nothing ∙ h.nothing;
    ended = λ end found. absurd (let a = sym found ∙ w.end in let x = a in cc);
  }
