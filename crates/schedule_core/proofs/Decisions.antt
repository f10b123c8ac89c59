-- The hub decides behind the polling of the last spoke, or goes on to the next one: what holds behind
-- it, and where the hub stands then.

use Rattle.std.proofs.Common.{arith, refl, sym, ap, subst, ◌∙◌, ◌≡◌, ℕ, suc, ◌+◌, ◌<◌, ◌≤◌, nat_le, Bool, true, false, List, [], ◌∷◌, length, get_or, ℤ, Option, Some, None, if◌then◌else◌}
use Rattle.std.specs.Prelude.{slice_get}
use Rattle.std.specs.List.{All}
use Rattle.std.proofs.lemmas.List.{get_or_past}
use Rattle.std.proofs.lemmas.List.Elements.{All-append, All-cons, All-nil}
use Rattle.std.proofs.lemmas.List.Sums.{AllPass-from_list_all}
use Rattle.std.proofs.lemmas.Option.{get_or_from_slice_get, slice_get-get_or, slice_get_within}
use Rattle.base_words.proofs.NumberTests.{test_from_less, test_from_not_less}
use mathlib.Core.Logic.{dite}
use native.Mathlib.Decide.{dec_le}
use Rattle.drive_words.specs.Shown.{polling_of}
use Rattle.drive_words.specs.Steps.{decided, decided_by}
use Rattle.drive_words.specs.Worlds.{Polling, has_closed, is_written, no_rank}
use Rattle.drive_words.proofs.Deciding.{ends_is, goes_on_is}
use Rattle.drive_words.proofs.Fronts.{some_ranks, unwritten}
use Rattle.hub_cylinder.specs.Hubs.{HasGone, HasStopped, IsHub}
use Rattle.hub_cylinder.specs.declared.hub.Hub.{Hub}
use Rattle.lagrangian_spoke.specs.declared.spoke.LagrangianSpoke.{LagrangianSpoke}
use Rattle.log_closing.proofs.Pushing.{last_more, next_more, present_more}
use Rattle.put_read.specs.SpokeReads.{ReadsSpoke}
use Rattle.put_read.specs.declared.spokes.SpokeReader.{SpokeReader}
use Rattle.rank_writer.specs.Writers.{pending_in}
use Rattle.rank_writer.specs.declared.writer.RankWriter.{RankWriter}
use Rattle.rank_writer.specs.declared.writer.Writing.{Writing}
use Rattle.run_log.specs.Events.{last_taken, next_spoke, pair_in, present}
use Rattle.run_log.specs.Runs.{EndsBy, GoesOn}
use Rattle.run_log.specs.declared.log.End.{End}
use Rattle.run_log.specs.declared.log.End.TheVariants.{Agreed, Gap, Iterations, Spent}
use Rattle.run_log.specs.declared.log.Event.{Event}
use Rattle.run_log.specs.declared.log.Event.TheVariants.{Put}
use Rattle.bound_ledger.specs.declared.ledger.Pair.{Pair}
use Rattle.sp_model.specs.declared.run.Run.{Run}
use Rattle.stamped_read.specs.Readers.{Reader, words_of}
use Rattle.schedule_core.specs.Drivers.{Decides, IsDriver, IsDriverTo, IsPolled, IsPollAt, IsRankAt, IsReplied, IsSpokeAt, PassesOn, hub_of, no_poll, poll_at, put_in, with_hub_of}
use Rattle.schedule_core.specs.Seats.{Boards, viewed}
use Rattle.schedule_core.specs.declared.driver.Driver.{Driver}

most_from_test : (a b : ℕ) → nat_le a b ≡ true → a ≤ b
most_from_test a b e = grind arith

-- a rank that has closed the present put
pub has_closed_put : (run : Run) (d : Driver) (n : ℕ) → IsDriverTo run d n → d.hub.wrote ≡ true → (i : ℕ) (rank : RankWriter) → slice_get d.ranks.items i ≡ Some rank → rank.last ≡ put_in d
has_closed_put run d n is wrote i rank at =
    let passes : has_closed (put_in d) rank ≡ true = ap (has_closed (put_in d)) (sym (get_or_from_slice_get d.ranks.items i rank no_rank at))
    ∙ AllPass-from_list_all (has_closed (put_in d)) d.ranks.items (sym is.wrote ∙ wrote) i no_rank (slice_get_within d.ranks.items i rank at) in
    let low = (is.ranks i rank at).within in
    let high = most_from_test (put_in d) rank.last passes in
    omega (arith, low, high)

module _ (run : Run) (d : Driver) (polled : IsPolled run d) (going : d.hub.end ≡ None) (wrote : d.hub.wrote ≡ true) where
  abbrev k : ℕ
  k = put_in d

  abbrev events : List Event
  events = d.hub.events.items

  abbrev first : ℤ
  first = d.hub.hedge.bound

  abbrev pair : Pair
  pair = pair_in first events

  is : IsDriverTo run d (d.asks + 1)
  is = polled.driver

  -- no reading is begun
  idle : (i : ℕ) (r : SpokeReader) → slice_get d.polls.items i ≡ Some r → r.reader.begun ≡ true → ⊥
  idle i r at begun =
      let asked = ((is.polls i r at).idle begun).0 in
      let same : poll_at d d.asks ≡ r.reader = ap (poll_at d) asked ∙ ap (λ (x : SpokeReader). x.reader) (get_or_from_slice_get d.polls.items i r no_poll at) in
      let off = polled.idle in
      let both : true ≡ false = sym begun ∙ (ap (λ (x : Reader). x.begun) (sym same) ∙ off) in cc

  abbrev began : Reader → Polling
  began r = record { first = r.first; words = length (words_of r 0) }

  no_reading : (i : ℕ) → polling_of (poll_at d i) ≡ None
  no_reading i = dite (dec_le (suc i) (length d.polls.items)) (λ l. within (omega arith)) (λ none. ap (λ (r : SpokeReader). polling_of r.reader) (get_or_past d.polls.items i no_poll (omega arith))) where
    none_by : (r : Reader) (t : Bool) → r.begun ≡ t → (r.begun ≡ true → ⊥) → polling_of r ≡ None
    none_by r true e off = absurd (off e)
    none_by r false e off = ap (λ t. if t then Some (began r) else None) e

    within : i < length d.polls.items → polling_of (poll_at d i) ≡ None
    within l = none_by (poll_at d i) (poll_at d i).begun refl (idle i (get_or d.polls.items i no_poll) (slice_get-get_or d.polls.items i no_poll l))

  poll_rests : (d' : Driver) → d'.board ≡ d.board → ((i : ℕ) → last_taken i d'.hub.events.items ≡ last_taken i events) → (i : ℕ) (r : SpokeReader) → slice_get d.polls.items i ≡ Some r → IsPollAt run d' i r
  poll_rests d' board taken i r at = let h = is.polls i r at in record {
    window = h.window;
    reads = subst (λ (b : Boards). ReadsSpoke run (viewed b 1) r) (sym board) h.reads;
    last = h.last ∙ sym (taken i);
    idle = λ begun. absurd (idle i r at begun);
  }

  -- THE NEXT SPOKE

  abbrev next : Driver
  next = record d { asks = d.asks + 1 }

  pub next_keeps : IsDriver run next
  next_keeps = record {
    of = is.of;
    board = is.board;
    hub = is.hub;
    wrote = is.wrote;
    many_ranks = is.many_ranks;
    ranks = is.ranks;
    many_spokes = is.many_spokes;
    spokes = is.spokes;
    many_polls = is.many_polls;
    polls = poll_rests next refl (λ i. refl);
    order = is.order;
    taken = is.taken;
    hub_seat = is.hub_seat;
    free = is.free;
    at_stop = is.at_stop;
    going = is.going;
    ended = is.ended;
  }

  pub next_passes : d.asks + 1 < length d.spokes.items → PassesOn run d next
  next_passes l = (
    None,
    ap (with_hub_of d) ((λ j. record (hub_of d) { asks = d.asks + 1; reading = no_reading (d.asks + 1) j })
        ∙ sym (ap (λ t. if t then record (hub_of d) { asks = d.asks + 1; reading = None } else decided run first (hub_of d) None) (test_from_less (d.asks + 1) (length d.spokes.items) l))),
  )

  -- all spokes were polled
  pub last_passes : (d' : Driver) → length d.spokes.items ≤ d.asks + 1 → Decides run d d' → PassesOn run d d'
  last_passes d' l decides = (decides.0, decides.1 ∙ ap (with_hub_of d) (sym (ap (λ t. if t then record (hub_of d) { asks = d.asks + 1; reading = None } else decided run first (hub_of d) decides.0) (test_from_not_less (d.asks + 1) (length d.spokes.items) l))))

  -- THE NEXT PUT

  rank_next : (i : ℕ) (rank : RankWriter) → slice_get d.ranks.items i ≡ Some rank → IsRankAt run d.board (k + 1) i rank
  rank_next i rank at =
      let h = is.ranks i rank at in
      let last = has_closed_put run d (d.asks + 1) is wrote i rank at in
      let shut = h.shut last in record {
        rank_is = h.rank_is;
        stands = record {
          there = h.stands.there;
          width = h.stands.width;
          within = h.stands.within;
          closed = h.stands.closed;
          owns = h.stands.owns;
          last = h.stands.last;
          writes = h.stands.writes ∙ (ap (λ (x : Writing). pending_in x k) shut ∙ sym (ap (λ (x : Writing). pending_in x (k + 1)) shut));
        };
        within = omega (arith, last);
        shut = λ e. absurd (omega (arith, e, last));
      }

  spoke_next : (i : ℕ) (s : LagrangianSpoke) → slice_get d.spokes.items i ≡ Some s → IsSpokeAt run d.board (k + 1) i s
  spoke_next i s at = let h = is.spokes i s at in let low = h.within in record { number_is = h.number_is; stands = h.stands; within = omega (arith, low) }

  module _ (hub' : Hub) (hub_is : IsHub run hub') (gone : HasGone run d.hub hub') where
    abbrev went : Driver
    went = record d { hub = hub'; asks = 0 }

    now : put_in went ≡ k + 1
    now = ap present gone.events ∙ present_more events (Put (k + 1))

    not_written : is_written d.ranks.items (put_in went) ≡ false
    not_written = let some = some_ranks run in let many = is.many_ranks in let l : 0 < length d.ranks.items = omega (arith, some, many) in
        let last = has_closed_put run d (d.asks + 1) is wrote 0 (get_or d.ranks.items 0 no_rank) (slice_get-get_or d.ranks.items 0 no_rank l) in
        ap (is_written d.ranks.items) now ∙ unwritten d.ranks.items (k + 1) 0 l (omega (arith, last))

    pub went_keeps : IsDriver run went
    went_keeps = record {
      of = is.of;
      board = is.board;
      hub = hub_is;
      wrote = gone.wrote ∙ sym not_written;
      many_ranks = is.many_ranks;
      ranks = λ i rank at. subst (λ m. IsRankAt run d.board m i rank) (sym now) (rank_next i rank at);
      many_spokes = is.many_spokes;
      spokes = λ i s at. subst (λ m. IsSpokeAt run d.board m i s) (sym now) (spoke_next i s at);
      many_polls = is.many_polls;
      polls = poll_rests went refl (λ i. ap (last_taken i) gone.events ∙ last_more events (Put (k + 1)) i);
      order = λ e. let none : next_spoke hub'.events.items ≡ 0 = ap next_spoke gone.events ∙ next_more events (Put (k + 1)) in omega (arith, none);
      taken = subst (All (IsReplied d.spokes.items)) (sym gone.events)
          (All-append (IsReplied d.spokes.items) events (Put (k + 1) ∷ []) is.taken (All-cons (IsReplied d.spokes.items) (Put (k + 1)) [] tt (All-nil (IsReplied d.spokes.items))));
      hub_seat = is.hub_seat;
      free = is.free;
      at_stop = λ on. absurd (let off = is.going going in let both : true ≡ false = sym on ∙ off in cc);
      going = λ e. is.going going;
      ended = λ some. absurd (some gone.end);
    }

    pub went_decides : Decides run d went
    went_decides = (
      None,
      ap (with_hub_of d)
          ((λ j. record { events = gone.events j; why = (gone.end ∙ sym going) j; asks = 0; reading = no_reading 0 j; stopped = d.is_stopped })
          ∙ sym (ap (decided_by k (hub_of d) None) (goes_on_is run k pair (subst (GoesOn run k) is.hub.pair gone.goes_on)))),
    )

  -- THE END

  -- what came of the search for the next put
  spent_by : (end : End) → EndsBy run k pair end → (spent : Option ℕ) × (decided run first (hub_of d) spent ≡ record (hub_of d) { why = Some end; reading = None })
  spent_by Agreed by = (None, ap (decided_by k (hub_of d) None) (ends_is run k pair Agreed by))
  spent_by Gap by = (None, ap (decided_by k (hub_of d) None) (ends_is run k pair Gap by))
  spent_by Iterations by = (None, ap (decided_by k (hub_of d) None) (ends_is run k pair Iterations by))
  spent_by (Spent s) by = (Some s, ap (decided_by k (hub_of d) (Some s)) (ends_is run k pair (Spent s) by))

  module _ (hub' : Hub) (hub_is : IsHub run hub') (stopped : HasStopped run d.hub hub') where
    abbrev ended_at : Hub → Driver
    ended_at hub = record d { hub = hub }

    abbrev last_hub : Hub
    last_hub = record d.hub { end = Some stopped.why }

    last_keeps : IsDriver run (ended_at last_hub)
    last_keeps = record {
      of = is.of;
      board = is.board;
      hub = subst (IsHub run) stopped.same hub_is;
      wrote = is.wrote;
      many_ranks = is.many_ranks;
      ranks = is.ranks;
      many_spokes = is.many_spokes;
      spokes = is.spokes;
      many_polls = is.many_polls;
      polls = poll_rests (ended_at last_hub) refl (λ i. refl);
      order = λ none. absurd (let e = none in cc);
      taken = is.taken;
      hub_seat = is.hub_seat;
      free = is.free;
      at_stop = is.at_stop;
      going = λ none. absurd (let e = none in cc);
      ended = λ some. wrote;
    }

    pub ended_keeps : IsDriver run (ended_at hub')
    ended_keeps = subst (λ (h : Hub). IsDriver run (ended_at h)) (sym stopped.same) last_keeps

    pub ended_decides : Decides run d (ended_at hub')
    ended_decides = let spent = spent_by stopped.why (subst (λ (p : Pair). EndsBy run k p stopped.why) is.hub.pair stopped.ends) in (
      spent.0,
      ap (with_hub_of d) ((λ j. record { events = (stopped.same j).events.items; why = (stopped.same j).end; asks = d.asks; reading = no_reading d.asks j; stopped = d.is_stopped }) ∙ sym spent.1),
    )
