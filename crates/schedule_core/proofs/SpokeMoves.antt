-- A call of a spoke is its step in the world, and what holds between two steps holds behind it.

use Rattle.std.proofs.Common.{arith, refl, sym, ap, subst, ◌∙◌, ◌≡◌, ℕ, ◌+◌, ◌/◌, ◌<◌, ◌≤◌, nat_eq, nat_lt, Bool, true, false, not, List, [], ◌∷◌, ◌++◌, map, length, set, ◌⊎◌, inl, inr, Vec, Global}
use Rattle.std.specs.Prelude.{slice_get, Option, Some, None, if◌then◌else◌}
use Rattle.std.specs.List.{All}
use Rattle.std.proofs.lemmas.List.{append-nil, get_or-map, length-set, map-set}
use Rattle.std.proofs.lemmas.Option.{get_or_from_slice_get, slice_get-get_or, slice_get_within}
use Rattle.base_words.proofs.NumberTests.{same_from_test, test_from_other}
use Rattle.drive_words.specs.Shown.{spoke_of}
use Rattle.drive_words.specs.Steps as steps
use Rattle.drive_words.specs.Worlds.{SpokeAt, World, no_rank, no_spoke, put_at, rank_at, rank_stamp, spoke_at, stamp_in}
use Rattle.drive_words.proofs.Fronts.{some_ranks}
use Rattle.drive_words.proofs.SpokeLeads.{IsAnswerOf, IsReaderOf, IsWorldStep, spoke_leads}
use Rattle.lagrangian_spoke.specs.Answering.{AreAnswers}
use Rattle.lagrangian_spoke.specs.Spokes.{HasSkipped, IsInPhase, IsReply, Leads, ReadsOn, WillReply, WritesOn, asked, due_in, read_last}
use Rattle.lagrangian_spoke.specs.declared.spoke.LagrangianSpoke.{LagrangianSpoke}
use Rattle.lagrangian_spoke.specs.declared.spoke.Phase.{Phase}
use Rattle.lagrangian_spoke.specs.declared.spoke.Phase.TheVariants.{Asks, Reads, Opens, Writes, Ended}
use Rattle.log_words.specs.declared.log.Answer.{Answer}
use Rattle.log_words.specs.declared.log.Answer.TheVariants.{Reply, Skip}
use Rattle.log_words.specs.declared.step.SpokeStep.{SpokeStep}
use Rattle.put_read.specs.declared.spokes.SpokeReader.{SpokeReader}
use Rattle.put_codec.specs.Layouts.{layout_in, width_of}
use Rattle.rank_writer.specs.declared.writer.RankWriter.{RankWriter}
use Rattle.rank_writer.specs.declared.writer.Writing.{Writing}
use Rattle.rank_writer.specs.declared.writer.Writing.TheVariants.{Open, Shut}
use Rattle.schedule_lines.specs.declared.schedule.Actor.TheVariants.{Spoke}
use Rattle.sp_model.specs.declared.run.Run.{Run}
use Rattle.stamped_read.specs.Readers.{Reader, begins, due, due_begun, follows, is_more, next, part, read_told, restarted, unfit, window_of}
use Rattle.stamped_read.specs.declared.read.Again.{Again}
use Rattle.stamped_read.specs.declared.read.Read.{Read}
use Rattle.stamped_read.specs.declared.read.Read.TheVariants as read
use Rattle.window_words.specs.declared.views.Call.TheVariants as call
use Rattle.window_words.specs.declared.views.View.{View}
use Rattle.schedule_core.specs.Drivers.{IsDriverTo, IsPollAt, IsReplied, IsSpokeAt, Steps, put_in, world_of}
use Rattle.schedule_core.specs.Seats.{Boards, SpokeCalls, answer_at, viewed}
use Rattle.schedule_core.specs.declared.driver.Driver.{Driver}
use Rattle.schedule_core.proofs.Crew.{each_set, taken_on}
use Rattle.schedule_core.proofs.Frames.{poll_on, rank_on, spoke_on}
use Rattle.schedule_core.proofs.Stamps.{Ruled, rank_stamp_at, stop_is}

-- what was read stays, or it is the put whose stamp the reading ends at
begins_last : (o : Option Again) (r : Reader) (n : ℕ) → (begins o r n).last ≡ r.last
begins_last None r n = refl
begins_last (Some again) r n = refl

module _ (r : Reader) (k n : ℕ) (low : r.last ≤ k) where
  follows_by : (more : Bool) → r.first / 2 ≤ k → (follows more r).last ≤ k
  follows_by true half = low
  follows_by false half = half

  ends_by : (t : Bool) → nat_eq n r.first ≡ t → n / 2 ≤ k → (if t then follows (is_more r) r else restarted r).last ≤ k
  ends_by true e half = follows_by (is_more r) (subst (λ m. m / 2 ≤ k) (same_from_test n r.first e) half)
  ends_by false e half = low

  next_by : (begun full : Bool) → (begun ≡ true → full ≡ true → n / 2 ≤ k) → (next (if begun then due_begun full (window_of r) else call.Begin (window_of r)) r n).last ≤ k
  next_by false full half = let same = begins_last (unfit r n) r n in omega (arith, low, same)
  next_by true false half = low
  next_by true true half = ends_by (nat_eq n r.first) refl (half refl refl)

  next_last : (r.begun ≡ true → (part r r.rank).spare ≡ 0 → n / 2 ≤ k) → (next (due r) r n).last ≤ k
  next_last half = next_by r.begun (nat_eq (part r r.rank).spare 0) (λ on full. half on (same_from_test (part r r.rank).spare 0 full))

half_stamp : (w : RankWriter) (k : ℕ) → w.last ≤ k → rank_stamp w k / 2 ≤ k
half_stamp w k low = half_by w.writing where
  half_by : (writing : Writing) → stamp_in w.last k writing / 2 ≤ k
  half_by Shut = omega (arith, low)
  half_by (Open m) = omega arith

-- a spoke that writes has a reply
writes_reply : (run : Run) (s : LagrangianSpoke) (m : ℕ) (phase : Phase) → phase ≡ Writes m → IsInPhase run s phase → IsReply run s
writes_reply run s m phase e h = (subst (IsInPhase run s) e h).0

-- a spoke behind a call: it has no other number, its answers grow, and it has read no later put
record Grows (k : ℕ) (s s' : LagrangianSpoke) : Type 0 where
  number : s'.number ≡ s.number
  more : List Answer
  answers : s'.answers.items ≡ s.answers.items ++ more
  within : read_last s' ≤ k

module _ (k n : ℕ) (s s' : LagrangianSpoke) (told : SpokeStep) (low : read_last s ≤ k) where
  grows_same : s'.number ≡ s.number → s'.answers.items ≡ s.answers.items → read_last s' ≤ k → Grows k s s'
  grows_same number answers within = record { number = number; more = []; answers = answers ∙ sym (append-nil s.answers.items); within = within }

  grows_to : (x : LagrangianSpoke) → s' ≡ x → x.number ≡ s.number → x.answers.items ≡ s.answers.items → read_last x ≤ k → Grows k s s'
  grows_to x e number answers within = grows_same (ap (λ (z : LagrangianSpoke). z.number) e ∙ number) (ap (λ (z : LagrangianSpoke). z.answers.items) e ∙ answers) (subst (λ (z : LagrangianSpoke). read_last z ≤ k) (sym e) within)

  reads_by : (answer : Read) → read_last s' ≤ k → ReadsOn s s' answer told → Grows k s s'
  reads_by read.Going within on = grows_same (ap (λ (z : LagrangianSpoke). z.number) on.1) (ap (λ (z : LagrangianSpoke). z.answers.items) on.1) within
  reads_by (read.Again again) within on = grows_same (ap (λ (z : LagrangianSpoke). z.number) on.1) (ap (λ (z : LagrangianSpoke). z.answers.items) on.1) within
  reads_by (read.Reading j) within on = answered on.3 where
    answered : WillReply s s' ⊎ HasSkipped s s' j → Grows k s s'
    answered (inl reply) = grows_same on.2 (ap (λ a. a.items) reply.answers) within
    answered (inr skipped) = record { number = on.2; more = Skip j skipped.scenario skipped.opened ∷ []; answers = skipped.answers; within = within }

  writes_by : (m : ℕ) (t : Bool) → WritesOn t s s' m told → Grows k s s'
  writes_by m true on = grows_to (record s { phase = Writes (m + 1) }) on.1 refl refl low
  writes_by m false on = let h = on.1 in record { number = h.number; more = Reply (read_last s) (Some s.value) ∷ []; answers = h.answers; within = subst (λ (z : Reader). z.last ≤ k) (sym h.reader) low }

  grows : (phase : Phase) → (phase ≡ Reads → s.reader.reader.begun ≡ true → (part s.reader.reader s.reader.reader.rank).spare ≡ 0 → n / 2 ≤ k) → Leads s s' n phase told → Grows k s s'
  grows Asks half l = grows_to (record s { phase = asked n }) l.1 refl refl low
  grows Reads half l = reads_by (read_told (due s.reader.reader) s.reader.reader n) (subst (λ (z : Reader). z.last ≤ k) (sym l.0) (next_last s.reader.reader k n low (half refl))) l.1
  grows Opens half l = grows_to (record s { phase = Writes 0 }) l.1 refl refl low
  grows (Writes m) half l = writes_by m (nat_lt m 3) l
  grows Ended half l = absurd l

module _ (run : Run) (d : Driver) (is : IsDriverTo run d d.asks) (rule : Ruled d.board) (i : ℕ) (s : LagrangianSpoke) (at : slice_get d.spokes.items i ≡ Some s) where
  abbrev seat : ℕ
  seat = run.options.ranks + 1 + i

  abbrev w : World
  w = world_of d

  abbrev r : Reader
  r = s.reader.reader

  -- the answer of the call that is due
  abbrev told_now : ℕ
  told_now = answer_at d.board seat (due_in s s.phase)

  here : IsSpokeAt run d.board (put_in d) i s
  here = is.spokes i s at

  rank_below : r.rank < run.options.ranks
  rank_below = let below = here.stands.reads.facts.below in let many = here.stands.reads.many in omega (arith, below, many)

  by_phase : (phase : Phase) → s.phase ≡ phase → told_now ≡ answer_at d.board seat (due_in s phase)
  by_phase phase e = ap (λ p. answer_at d.board seat (due_in s p)) e

  -- the hub's stop
  stops_by : (t : Bool) → d.is_stopped ≡ t → told_now ≡ (viewed d.board 0).stopped → d.is_stopped ≡ not (nat_eq told_now 0)
  stops_by false off e = off ∙ sym (ap (λ m. not (nat_eq m 0)) (e ∙ is.free off))
  stops_by true on e = on ∙ sym (ap not (test_from_other told_now 0 (λ z. let some = is.hub.some in let last = is.at_stop on in omega (arith, e, z, some, last))))

  -- the stamp of the rank's window that is read
  read_stamp : (m : ℕ) → m ≡ answer_at d.board seat (call.Begin (window_of r)) → m ≡ rank_stamp (rank_at w.ranks r.rank) (put_at w)
  read_stamp m e = e ∙ (ap (λ j. answer_at d.board seat (call.Begin j)) (let first = here.stands.reads.begins in let z : window_of r ≡ r.rank = omega (arith, first) in z) ∙ rank_stamp_at run d d.asks is rule r.rank rank_below)

  begins_at : s.phase ≡ Reads → r.begun ≡ false → told_now ≡ rank_stamp (rank_at w.ranks r.rank) (put_at w)
  begins_at e off = read_stamp told_now (by_phase Reads e ∙ ap (λ t. answer_at d.board seat (if t then due_begun (nat_eq (part r r.rank).spare 0) (window_of r) else call.Begin (window_of r))) off)

  ends_at : s.phase ≡ Reads → r.begun ≡ true → (part r r.rank).spare ≡ 0 → told_now ≡ rank_stamp (rank_at w.ranks r.rank) (put_at w)
  ends_at e on full = read_stamp told_now (by_phase Reads e ∙ (ap (λ t. answer_at d.board seat (if t then due_begun (nat_eq (part r r.rank).spare 0) (window_of r) else call.Begin (window_of r))) on
      ∙ ap (λ m. answer_at d.board seat (due_begun (nat_eq m 0) (window_of r))) full))

  tells_world : (s' : LagrangianSpoke) (told : SpokeStep) → IsAnswerOf run w i s s' told_now told s.phase
  tells_world s' told = record {
    stops = λ e. stops_by d.is_stopped refl (by_phase Asks e ∙ stop_is run d d.asks is rule);
    begins = begins_at;
    ends = ends_at;
  }

  -- the rank that is read
  reads_ranks : IsReaderOf (length w.ranks) (rank_at w.ranks r.rank).width r
  reads_ranks =
      let reads = here.stands.reads in
      let rank = is.ranks r.rank (rank_at d.ranks.items r.rank) (slice_get-get_or d.ranks.items r.rank no_rank (let many = is.many_ranks in let l = rank_below in omega (arith, l, many))) in
      let first = reads.begins in
      let same : r.window + r.rank ≡ (rank_at d.ranks.items r.rank).rank = let k = rank.rank_is in omega (arith, first, k) in
      record {
        many = reads.many ∙ sym is.many_ranks;
        below = reads.facts.below;
        room = (reads.reads.laid r.rank reads.facts.below).1 ∙ (ap (width_of (layout_in run)) same ∙ sym rank.stands.width);
      }

  module _ (s' : LagrangianSpoke) (told : SpokeStep) (b' : Boards) (calls : SpokeCalls run d.board b' seat s s' told) (v : Vec LagrangianSpoke Global) (items : v.items ≡ set d.spokes.items i s') where
    grown : Grows (put_in d) s s'
    grown = grows (put_in d) told_now s s' told here.within s.phase (λ e on full. let same = ends_at e on full in
        let rank = is.ranks r.rank (rank_at d.ranks.items r.rank) (slice_get-get_or d.ranks.items r.rank no_rank (let many = is.many_ranks in let l = rank_below in omega (arith, l, many))) in
        subst (λ m. m / 2 ≤ put_in d) (sym same) (half_stamp (rank_at d.ranks.items r.rank) (put_in d) rank.within)) calls.leads

    abbrev d' : Driver
    d' = record d { board = b'; spokes = v }

    -- what holds between two steps
    poll_stays : (j : ℕ) (p : SpokeReader) → IsPollAt run d j p → IsPollAt run d' j p
    poll_stays j p h = record {
      window = h.window;
      reads = poll_on run (viewed d.board 1) (viewed b' 1) p (ap (λ (x : View). x.reading) (calls.stays.others 1 (λ e. let some = some_ranks run in omega (arith, e, some)))) h.reads;
      last = h.last;
      idle = h.idle;
    }

    pub spoke_keeps : IsDriverTo run d' d.asks
    spoke_keeps = record {
      of = is.of;
      board = calls.stays.meaning ∙ is.board;
      hub = is.hub;
      wrote = is.wrote;
      many_ranks = is.many_ranks;
      ranks = λ j rank e. rank_on run seat d.board b' calls.stays (put_in d) j rank (λ z. let l = slice_get_within d.ranks.items j rank e in let many = is.many_ranks in omega (arith, z, l, many)) (is.ranks j rank e);
      many_spokes = ap length items ∙ (length-set d.spokes.items i s' ∙ is.many_spokes);
      spokes = subst (λ (xs : List LagrangianSpoke). (j : ℕ) (x : LagrangianSpoke) → slice_get xs j ≡ Some x → IsSpokeAt run b' (put_in d) j x) (sym items)
          (each_set d.spokes.items i s' (IsSpokeAt run b' (put_in d))
          (λ j x other e. spoke_on run seat d.board b' calls.stays (put_in d) j x (λ z. other (omega (arith, z))) (is.spokes j x e))
          (record { number_is = grown.number ∙ here.number_is; stands = calls.stands; within = grown.within }));
      many_polls = is.many_polls;
      polls = λ j p e. poll_stays j p (is.polls j p e);
      order = is.order;
      taken = subst (λ (xs : List LagrangianSpoke). All (IsReplied xs) d.hub.events.items) (sym items) (taken_on d.spokes.items i s s' at grown.more grown.answers d.hub.events.items is.taken);
      hub_seat = ap (λ (x : View). x.hub) hub_view ∙ is.hub_seat;
      free = λ off. ap (λ (x : View). x.stopped) hub_view ∙ is.free off;
      at_stop = λ on. ap (λ (x : View). x.stopped) hub_view ∙ is.at_stop on;
      going = is.going;
      ended = is.ended;
    } where
      hub_view : viewed b' 0 ≡ viewed d.board 0
      hub_view = calls.stays.others 0 (λ e. omega (arith, e))

    -- the step in the world
    world_step : IsWorldStep run w i (spoke_of s) s.phase (spoke_of s')
    world_step = spoke_leads run w i s s' told_now told s.phase refl here.number_is right (λ m e. writes_reply run s m s.phase e here.stands.phase) reads_ranks (tells_world s' told) calls.leads where
      right : AreAnswers run i s'.answers.items
      right = subst (λ j. AreAnswers run j s'.answers.items) (grown.number ∙ here.number_is) calls.stands.spoke.answers

    shown : spoke_at w i ≡ spoke_of s
    shown = get_or-map spoke_of d.spokes.items i s no_spoke (slice_get_within d.spokes.items i s at) ∙ ap spoke_of (get_or_from_slice_get d.spokes.items i s s at)

    spokes_after : map spoke_of v.items ≡ set (map spoke_of d.spokes.items) i (spoke_of s')
    spokes_after = ap (map spoke_of) items ∙ map-set spoke_of d.spokes.items i s'

    pub spoke_steps : Steps run d (Spoke i) d'
    spoke_steps = let step = world_step in (
      step.0,
      (λ j. record w { spokes = spokes_after j })
          ∙ (λ j. record w { spokes = set (map spoke_of d.spokes.items) i ((step.1 ∙ ap (λ (x : SpokeAt). steps.spoke_next run w step.0 i x x.phase) (sym shown)) j) }),
    )
