-- A call of a rank is its step in the world, and what holds between two steps holds behind it.

use Rattle.std.proofs.Common.{arith, refl, sym, ap, subst, ◌∙◌, ◌≡◌, ◌≢◌, ℕ, ◌+◌, ◌<◌, ◌≤◌, nat_eq, nat_lt, Bool, true, false, ◌&&◌, List, length, set, ℤ, Vec, Global, length-set}
use Rattle.std.specs.Prelude.{slice_get, Option, Some, None, if◌then◌else◌}
use Rattle.std.proofs.lemmas.List.{get_or_past, length-map}
use Rattle.std.proofs.lemmas.Option.{get_or_from_slice_get, slice_get-get_or, slice_get_within}
use mathlib.Core.Logic.{dite}
use native.Mathlib.Decide.{ℕ_discrete}
use Rattle.base_words.proofs.Comparisons.{both_left, both_right}
use Rattle.base_words.proofs.NumberTests.{same_from_test, test_from_less, test_from_not_less}
use Rattle.drive_words.specs.Shown.{spoke_of}
use Rattle.drive_words.specs.Steps.{alone_decided, decided, may_write, rank_step}
use Rattle.drive_words.specs.Worlds.{World, is_written, no_rank, rank_at, with_hub}
use Rattle.drive_words.proofs.Fronts.{unwritten}
use Rattle.hub_cylinder.specs.Hubs.{IsHub}
use Rattle.hub_cylinder.specs.declared.hub.Hub.{Hub}
use Rattle.put_codec.specs.Layouts.{layout_in}
use Rattle.put_read.specs.declared.spokes.SpokeReader.{SpokeReader}
use Rattle.rank_writer.specs.Writers.{written, written_by}
use Rattle.rank_writer.specs.declared.writer.RankWriter.{RankWriter}
use Rattle.rank_writer.specs.declared.writer.Writing.{Writing}
use Rattle.rank_writer.specs.declared.writer.Writing.TheVariants.{Open, Shut}
use Rattle.run_log.specs.declared.log.End.{End}
use Rattle.schedule_lines.specs.declared.schedule.Actor.TheVariants.{Rank}
use Rattle.sp_model.specs.declared.run.Run.{Run}
use Rattle.window_words.specs.declared.views.View.{View}
use Rattle.schedule_core.specs.Drivers.{Decides, IsDriver, IsPollAt, IsPolled, IsRankAt, Steps, is_alone, no_poll, put_in, with_written, world_of}
use Rattle.schedule_core.specs.Seats.{Boards, RankCalls, viewed}
use Rattle.schedule_core.specs.declared.driver.Driver.{Driver}
use Rattle.schedule_core.proofs.Crew.{each_set}
use Rattle.schedule_core.proofs.Frames.{later, poll_on, rank_on, spoke_on}

-- a rank that has written
record Wrote (k : ℕ) (w w' : RankWriter) : Type 0 where
  rank : w'.rank ≡ w.rank
  within : w'.last ≤ k
  shut : w'.last ≡ k → w'.writing ≡ Shut

module _ (k : ℕ) (w : RankWriter) (late : w.last < k) where
  open_by : (n : ℕ) (t : Bool) → Wrote k w (if t then record w { writing = Open (n + 1) } else record w { last = k; writing = Shut })
  open_by n true = record { rank = refl; within = omega (arith, late); shut = λ e. absurd (omega (arith, late, e)) }
  open_by n false = record { rank = refl; within = omega arith; shut = λ e. refl }

  wrote_by : (writing : Writing) → Wrote k w (written_by w k writing)
  wrote_by Shut = record { rank = refl; within = omega (arith, late); shut = λ e. absurd (omega (arith, late, e)) }
  wrote_by (Open n) = open_by n (nat_lt n w.width)

  wrote : Wrote k w (written w k)
  wrote = wrote_by w.writing

module _ (run : Run) (d : Driver) (is : IsDriver run d) (i : ℕ) (w : RankWriter) (at : slice_get d.ranks.items i ≡ Some w) (late : w.last < put_in d) where
  abbrev k : ℕ
  k = put_in d

  there : i < length d.ranks.items
  there = slice_get_within d.ranks.items i w at

  rank_is : rank_at d.ranks.items i ≡ w
  rank_is = get_or_from_slice_get d.ranks.items i w no_rank at

  pub not_wrote : d.hub.wrote ≡ false
  not_wrote = is.wrote ∙ unwritten d.ranks.items k i there (subst (λ (x : RankWriter). x.last < k) (sym rank_is) late)

  end_by : (o : Option End) → d.hub.end ≡ o → d.hub.end ≡ None
  end_by None e = e
  end_by (Some why) e = absurd (let on = is.ended (λ none. let both = sym none ∙ e in cc) in let off = not_wrote in let both : true ≡ false = sym on ∙ off in cc)

  pub still_going : d.hub.end ≡ None
  still_going = end_by d.hub.end refl

  module _ (w' : RankWriter) (b' : Boards) (calls : RankCalls (layout_in run) d.board b' (i + 1) k w w') (v : Vec RankWriter Global) (items : v.items ≡ set d.ranks.items i w') where
    -- where the hub knows whether the put stands in all windows
    abbrev after : Bool → Driver
    after t = record d { board = b'; ranks = v; hub = record d.hub { wrote = t } }

    wrote_it : Wrote k w w'
    wrote_it = subst (Wrote k w) (sym calls.writes) (wrote k w late)

    hub_view : viewed b' 0 ≡ viewed d.board 0
    hub_view = calls.stays.others 0 (λ e. omega (arith, e))

    reading_stays : (viewed b' 1).reading ≡ (viewed d.board 1).reading
    reading_stays = dite (ℕ_discrete (i + 1) 1)
        (λ (same : i + 1 ≡ 1). subst (λ m. (viewed b' m).reading ≡ (viewed d.board m).reading) same calls.reading)
        (λ (other : i + 1 ≢ 1). ap (λ (x : View). x.reading) (calls.stays.others 1 (λ e. other (sym e))))

    poll_stays : (t : Bool) (j : ℕ) (p : SpokeReader) → IsPollAt run d j p → IsPollAt run (after t) j p
    poll_stays t j p h = record {
      window = h.window;
      reads = poll_on run (viewed d.board 1) (viewed b' 1) p reading_stays h.reads;
      last = h.last;
      idle = λ begun. absurd (let on = (h.idle begun).2 in let off = not_wrote in let both : true ≡ false = sym on ∙ off in cc);
    }

    pub rank_keeps : (t : Bool) → t ≡ is_written v.items k → IsHub run (record d.hub { wrote = t }) → IsDriver run (after t)
    rank_keeps t written hub = record {
      of = is.of;
      board = calls.stays.meaning ∙ is.board;
      hub = hub;
      wrote = written;
      many_ranks = ap length items ∙ (length-set d.ranks.items i w' ∙ is.many_ranks);
      ranks = subst (λ (xs : List RankWriter). (j : ℕ) (x : RankWriter) → slice_get xs j ≡ Some x → IsRankAt run b' k j x) (sym items)
          (each_set d.ranks.items i w' (IsRankAt run b' k)
          (λ j x other e. rank_on run (i + 1) d.board b' calls.stays k j x (λ z. other (omega (arith, z))) (is.ranks j x e))
          (record { rank_is = wrote_it.rank ∙ (is.ranks i w at).rank_is; stands = calls.stands; within = wrote_it.within; shut = wrote_it.shut }));
      many_spokes = is.many_spokes;
      spokes = λ j s e. spoke_on run (i + 1) d.board b' calls.stays k j s (λ z. let l = there in let many = is.many_ranks in omega (arith, z, l, many)) (is.spokes j s e);
      many_polls = is.many_polls;
      polls = λ j p e. poll_stays t j p (is.polls j p e);
      order = is.order;
      taken = is.taken;
      hub_seat = ap (λ (x : View). x.hub) hub_view ∙ is.hub_seat;
      free = λ off. ap (λ (x : View). x.stopped) hub_view ∙ is.free off;
      at_stop = λ on. ap (λ (x : View). x.stopped) hub_view ∙ is.at_stop on;
      going = is.going;
      ended = λ some. absurd (some still_going);
    }

    -- the same where the hub was told that it does
    pub told_keeps : (hub : Hub) → hub ≡ record d.hub { wrote = true } → true ≡ is_written v.items k → IsHub d.hub.run.value hub → IsDriver run (record d { board = b'; ranks = v; hub = hub })
    told_keeps hub e written keeps = subst (λ (h : Hub). IsDriver run (record d { board = b'; ranks = v; hub = h })) (sym e)
        (rank_keeps true written (subst (λ (z : Run × Hub). IsHub z.0 z.1) (λ t. (is.hub.of t, e t)) keeps))

-- THE STEP

-- a rank that has closed the present put has no step
pub rank_rests : (run : Run) (d : Driver) (i : ℕ) → put_in d ≤ (rank_at d.ranks.items i).last → Steps run d (Rank i) d
rank_rests run d i closed = (None, sym (ap (λ t. if t then alone_decided run d.hub.hedge.bound (with_written (world_of d) i) None else world_of d) off)) where
  and_off : (a : Bool) → (a && false) ≡ false
  and_off true = refl
  and_off false = refl

  off : may_write (world_of d) i ≡ false
  off = ap (λ t. nat_lt i (length d.ranks.items) && t) (test_from_not_less (rank_at d.ranks.items i).last (put_in d) closed) ∙ and_off (nat_lt i (length d.ranks.items))

some_same : {X : Type 0} (a b : X) → Some a ≡ Some b → a ≡ b
some_same a b e = cc

-- any two hubs of a run have one first bound
same_bound : (run : Run) (hub hub' : Hub) → IsHub run hub → IsHub run hub' → hub'.hedge.bound ≡ hub.hedge.bound
same_bound run hub hub' is is' = some_same hub'.hedge.bound hub.hedge.bound (sym is'.bound ∙ is.bound)

module _ (run : Run) (d d1 : Driver) (i : ℕ) (is : IsDriver run d) (is1 : IsDriver run d1) (there : i < run.options.ranks) (late : (rank_at d.ranks.items i).last < put_in d) (writes : world_of d1 ≡ with_written (world_of d) i) where
  abbrev first : ℤ
  first = d.hub.hedge.bound

  may : may_write (world_of d) i ≡ true
  may = (λ j. (test_from_less i (length d.ranks.items) (let many = is.many_ranks in omega (arith, there, many)) j) && (test_from_less (rank_at d.ranks.items i).last (put_in d) late j))

  alone_is : (nat_eq (length (world_of d1).spokes) 0 && is_written d1.ranks.items (put_in d1)) ≡ is_alone d1
  alone_is = λ j. nat_eq (length-map d1.spokes.items spoke_of j) 0 && sym is1.wrote j

  stepped : (spent : Option ℕ) → alone_decided run first (world_of d1) spent ≡ rank_step run first (world_of d) spent i
  stepped spent = ap (λ (w : World). alone_decided run first w spent) writes
      ∙ sym (ap (λ t. if t then alone_decided run first (with_written (world_of d) i) spent else world_of d) may)

  pub rank_goes_on : is_alone d1 ≡ false → Steps run d (Rank i) d1
  rank_goes_on off = (None, sym (ap (λ t. if t then with_hub (world_of d1) (decided run first (world_of d1).hub None) else world_of d1) (alone_is ∙ off)) ∙ stepped None)

  pub rank_decides : is_alone d1 ≡ true → (d2 : Driver) → Decides run d1 d2 → Steps run d (Rank i) d2
  rank_decides on d2 decides = (
    decides.0,
    decides.1 ∙ (ap (λ b. with_hub (world_of d1) (decided run b (world_of d1).hub decides.0)) (same_bound run d.hub d1.hub is.hub is1.hub)
        ∙ (sym (ap (λ t. if t then with_hub (world_of d1) (decided run first (world_of d1).hub decides.0) else world_of d1) (alone_is ∙ on)) ∙ stepped decides.0)),
  )

  -- what the deciding asks
  module _ (on : is_alone d1 ≡ true) where
    pub alone_polled : IsPolled run d1
    alone_polled = record {
      driver = later run d1 d1.asks (d1.asks + 1) (omega arith) is1;
      idle = ap (λ (p : SpokeReader). p.reader.begun) (get_or_past d1.polls.items d1.asks no_poll (let none = same_from_test (length d1.spokes.items) 0 (both_left (nat_eq (length d1.spokes.items) 0) d1.hub.wrote on) in
          let spokes = is1.many_spokes in let polls = is1.many_polls in omega (arith, none, spokes, polls)));
    }

    pub alone_wrote : d1.hub.wrote ≡ true
    alone_wrote = both_right (nat_eq (length d1.spokes.items) 0) d1.hub.wrote on

  pub alone_going : d1.hub.end ≡ None
  alone_going = ap (λ (w : World). w.hub.why) writes ∙ still_going run d is i (rank_at d.ranks.items i) (slice_get-get_or d.ranks.items i no_rank (let many = is.many_ranks in omega (arith, there, many))) late
