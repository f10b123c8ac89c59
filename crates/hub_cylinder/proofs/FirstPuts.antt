-- A hub behind the first put keeps what a hub keeps.

use Rattle.std.proofs.Common.{arith, refl, sym, ap, subst, ◌∙◌, ◌≡◌, ℕ, ◌+◌, ◌*◌, ◌≤◌, false, replicate, List, [], ◌∷◌, ◌++◌, ℤ, None}
use Rattle.bound_ledger.specs.Pairs.{pair_after}
use Rattle.hedging.specs.Hedges.{IsFirst, made_of}
use Rattle.put_words.specs.Puts.{put_of}
use Rattle.put_words.proofs.Inside.{put_number}
use Rattle.sp_model.specs.declared.run.Run.{Run}
use Rattle.run_log.specs.Events.{HasPair, pair_in, present}
use Rattle.run_log.specs.Runs.{AreEvents, MayFollow, MayPut}
use Rattle.run_log.specs.declared.log.Event.{Event}
use Rattle.run_log.specs.declared.log.Event.TheVariants.{Put}
use Rattle.log_closing.specs.Marks.{AreMarked, puts_of}
use Rattle.hub_cylinder.specs.Hubs.{AreRooms, HaveRoom, IsHub}
use Rattle.hub_cylinder.specs.declared.hub.Hub.{Hub}
use Rattle.hub_cylinder.specs.declared.starting.Rooms.{Rooms}
use Rattle.log_closing.proofs.Marking.{marked_none}
use Rattle.log_closing.proofs.Pushing.{behind_more, behind_none}
use Rattle.hub_cylinder.proofs.Roomy.{roomy_first}

may_first : (run : Run) (first : ℤ) → MayPut run first [] 1
may_first run first = record { next = refl; goes_on = λ some. let none : 1 ≤ 0 = some in absurd (omega arith) }

pub events_first : (run : Run) (first : ℤ) → AreEvents run first (Put 1 ∷ [])
events_first run first = record {
  follow = behind_more (MayFollow run first) [] (Put 1) (behind_none (MayFollow run first)) (may_first run first);
  pairs = behind_more (HasPair first) [] (Put 1) (behind_none (HasPair first)) tt;
}

-- what a hub is made of
pub record Starts (run : Run) (rooms : Rooms) (hub : Hub) : Type 0 where
  pub of : hub.run.value ≡ run
  pub most : hub.most ≡ puts_of run
  pub first : IsFirst run hub.hedge
  pub pair : hub.ledger.pair ≡ pair_after hub.hedge.bound []
  pub events : hub.events.items ≡ rooms.events.items ++ Put 1 ∷ []
  pub spare : hub.events.spare + 1 ≡ rooms.events.spare
  pub marks : hub.marks ≡ rooms.marks
  pub logs : hub.logs.items ≡ rooms.logs.items
  pub logs_room : hub.logs.spare ≡ rooms.logs.spare
  pub nothing : hub.nothing ≡ rooms.nothing
  pub end : hub.end ≡ None

module _ (run : Run) (rooms : Rooms) (hub : Hub) (alone : run.options.xhat ≡ 0) (are : AreRooms run rooms) (s : Starts run rooms hub) where
  pub one_event : hub.events.items ≡ Put 1 ∷ []
  one_event = s.events ∙ ap (λ (xs : List Event). xs ++ Put 1 ∷ []) are.events

  now : present hub.events.items ≡ 1
  now = ap present one_event

  pub first_keeps : IsHub run hub
  first_keeps = record {
    of = s.of;
    alone = alone;
    most = s.most;
    some = omega (arith, now);
    within = omega (arith, now);
    number = put_number run 1 (made_of hub.hedge) s.first.0 ∙ sym now;
    put = ap (λ n. put_of run n) now ∙ s.first.0;
    bound = s.first.1;
    events = subst (λ (x : List Event). AreEvents run hub.hedge.bound x) (sym one_event) (events_first run hub.hedge.bound);
    pair = s.pair ∙ ap (λ (x : List Event). pair_in hub.hedge.bound x) (sym one_event);
    room = subst (λ (x : List Event). HaveRoom run x hub.events.spare) (sym one_event) (roomy_first run hub.events.spare (s.spare ∙ are.events_room));
    marks = subst (λ (x : List Event). AreMarked run hub.most hub.marks x) (sym one_event) (marked_none run hub.most hub.marks 1 (s.marks ∙ (are.marks ∙ ap (λ (n : ℕ). replicate (run.options.lagrangian * (n + 1)) false) (sym s.most))));
    logs = s.logs ∙ are.logs;
    logs_room = s.logs_room ∙ are.logs_room;
    nothing = s.nothing ∙ are.nothing;
    ended = λ end found. absurd (let a = sym found ∙ s.end in let x = a in cc);
  }
