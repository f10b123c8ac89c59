-- The next step of the hub's polling: what holds behind it, and where the hub stands then.

use Rattle.std.proofs.Common.{arith, refl, sym, ap, subst, ◌∙◌, ◌≡◌, ◌≢◌, ◌⊎◌, inl, inr, ℕ, zero, suc, ◌+◌, ◌-◌, ◌*◌, ◌<◌, ◌≤◌, nat_eq, true, false, ◌&&◌, List, [], ◌∷◌, ◌++◌, length, map, get_or, set, ℤ, Option, Some, None, if◌then◌else◌, get_or-set_same, length-set, Vec, Global}
use Rattle.std.specs.Prelude.{slice_get}
use Rattle.std.specs.List.{All, Contains}
use Rattle.std.proofs.lemmas.List.{get_or-map, length-map}
use Rattle.std.proofs.lemmas.List.Elements.{All-append, All-cons, All-contains, All-nil, Contains-append_right, Contains-get_or}
use Rattle.std.proofs.lemmas.Option.{get_or_from_slice_get, slice_get-get_or, slice_get_cases, slice_get_read, slice_get_within}
use mathlib.Core.Logic.{dite}
use native.Mathlib.Decide.{ℕ_discrete}
use Rattle.base_words.proofs.NumberTests.{test_from_less, test_from_not_less, test_from_other, test_from_same}
use Rattle.bound_ledger.specs.Pairs.{pair_after}
use Rattle.drive_words.specs.Shown.{polling_of, spoke_of}
use Rattle.drive_words.specs.Steps.{hub_step_by, may_poll, polled, polled_on, step, taken}
use Rattle.drive_words.specs.Worlds.{HubAt, World, is_written, no_rank, no_spoke, rank_at, reply_stamp, spoke_at, spoke_stamp, stamp_in, with_hub}
use Rattle.drive_words.proofs.Fronts.{some_ranks}
use Rattle.hedging.specs.declared.hedge.Hedge.{Hedge}
use Rattle.hub_cylinder.specs.Hubs.{IsHub, Takes}
use Rattle.hub_cylinder.specs.declared.hub.Hub.{Hub}
use Rattle.lagrangian_spoke.specs.Answering.{IsAnswer, replied}
use Rattle.lagrangian_spoke.specs.declared.spoke.LagrangianSpoke.{LagrangianSpoke}
use Rattle.lagrangian_spoke.specs.declared.spoke.Phase.{Phase}
use Rattle.lagrangian_spoke.specs.declared.spoke.Phase.TheVariants as phase
use Rattle.log_closing.proofs.Pushing.{bounds_take, last_more, next_more, present_more}
use Rattle.log_words.specs.Replies.{reply_of}
use Rattle.log_words.specs.declared.log.Answer.{Answer}
use Rattle.log_words.specs.declared.log.Answer.TheVariants.{Reply, Skip}
use Rattle.put_codec.specs.Layouts.{cells_of, layout_in, windows_of}
use Rattle.put_codec.specs.declared.layout.Layout.{Layout}
use Rattle.put_codec.specs.declared.run_meaning.RunMeaning.{RunMeaning}
use Rattle.put_read.specs.SpokeReads.{read_of}
use Rattle.put_read.specs.declared.spokes.ReplyRead.{ReplyRead}
use Rattle.put_read.specs.declared.spokes.ReplyRead.TheVariants as told
use Rattle.put_read.specs.declared.spokes.SpokeReader.{SpokeReader}
use Rattle.rank_writer.specs.declared.writer.RankWriter.{RankWriter}
use Rattle.run_log.specs.Events.{bound_from, bounds_of, last_taken, next_spoke, pair_in, present}
use Rattle.run_log.specs.Runs.{MayPoll}
use Rattle.run_log.specs.declared.log.Event.{Event}
use Rattle.run_log.specs.declared.log.Event.TheVariants.{Take}
use Rattle.run_log.specs.declared.log.Source.TheVariants.{Spoke}
use Rattle.schedule_lines.specs.declared.schedule.Actor.TheVariants as actor
use Rattle.sp_model.specs.declared.run.Run.{Run}
use Rattle.stamped_read.specs.declared.read.Again.{Again}
use Rattle.stamped_read.specs.Readers.{Reader, due, due_begun, part, window_of}
use Rattle.wide_num.specs.RoomContents.{room_of}
use Rattle.window_words.specs.Views.{last_of}
use Rattle.window_words.specs.declared.views.Call.TheVariants as call
use Rattle.window_words.specs.declared.views.View.{View}
use Rattle.schedule_core.specs.Drivers.{IsDriver, IsDriverTo, IsPollAt, IsPolled, IsRankAt, IsReplied, IsSpokeAt, PassesOn, Steps, hub_of, no_poll, poll_at, put_in, with_hub_of, world_of}
use Rattle.schedule_core.specs.Seats.{Boards, PollCalls, answer_at, viewed}
use Rattle.schedule_core.specs.declared.driver.Driver.{Driver}
use Rattle.schedule_core.proofs.Crew.{each_set}
use Rattle.schedule_core.proofs.Decisions.{has_closed_put}
use Rattle.schedule_core.proofs.Frames.{rank_on, rank_reads, spoke_on}
use Rattle.schedule_core.proofs.PollLeads.{IsPassed, IsRead, Leads, poll_leads, polled_but}
use Rattle.schedule_core.proofs.Stamps.{Ruled, rank_stamp_at, spoke_stamp_at, stamp_on}

-- a put that was replied to has its reply among the answers
reply_there : (answers : List Answer) (k : ℕ) → Contains (replied answers) k → (value : Option ℤ) × Contains answers (Reply k value)
reply_there [] k c = absurd (let l = c.1 in omega (arith, l))
reply_there (Reply j v ∷ answers) k (zero, l, e) = (v, (0, omega arith, ap (λ m. Reply m v) e))
reply_there (Reply j v ∷ answers) k (suc n, l, e) = let rest = reply_there answers k (n, omega (arith, l), e) in (rest.0, Contains-append_right (Reply j v ∷ []) answers (Reply k rest.0) rest.1)
reply_there (Skip j s o ∷ answers) k c = let rest = reply_there answers k c in (rest.0, Contains-append_right (Skip j s o ∷ []) answers (Reply k rest.0) rest.1)

last_there : (ks : List ℕ) (k : ℕ) → last_of ks ≡ k → 1 ≤ k → Contains ks k
last_there [] k e some = absurd (omega (arith, e, some))
last_there (x ∷ xs) k e some = subst (Contains (x ∷ xs)) e (Contains-get_or (x ∷ xs) (length (x ∷ xs) - 1) 0 (omega arith))

-- an even stamp of a spoke's window is that of its last reply
last_reply : (answers : List Answer) (read k : ℕ) (at : Phase) → reply_stamp answers read at ≡ 2 * k → 1 ≤ k → last_of (replied answers) ≡ k
last_reply answers read k phase.Asks e some = omega (arith, e)
last_reply answers read k phase.Reads e some = omega (arith, e)
last_reply answers read k phase.Opens e some = omega (arith, e)
last_reply answers read k (phase.Writes n) e some = absurd (omega (arith, e, some))
last_reply answers read k phase.Ended e some = omega (arith, e)

-- where the spoke that is asked stands
there : {X : Type 0} (xs : List X) (i : ℕ) → i < length xs → (x : X) × (slice_get xs i ≡ Some x)
there {X = X} xs i l = there_by (slice_get_cases xs i).1 where
  there_by : ((x : X) × (i < length xs) × (slice_get xs i ≡ Some x) × (get_or xs i x ≡ x)) ⊎ ((length xs ≤ i) × (slice_get xs i ≡ None)) → (x : X) × (slice_get xs i ≡ Some x)
  there_by (inl h) = (h.0, h.2)
  there_by (inr h) = let past = h.0 in absurd (omega (arith, past, l))

-- the reader of the spoke that is asked
pub asked_there : (run : Run) (d : Driver) → IsDriver run d → d.asks < length d.spokes.items → (r : SpokeReader) → r ≡ get_or d.polls.items d.asks r → slice_get d.polls.items d.asks ≡ Some r
asked_there run d is asks r e =
    let many = is.many_polls in let spokes = is.many_spokes in
    slice_get_read d.polls.items (length d.polls.items) d.asks r refl (omega (arith, asks, many, spokes)) e

module _ (run : Run) (d : Driver) (is : IsDriver run d) (rule : Ruled d.board) (going : d.hub.end ≡ None) (wrote : d.hub.wrote ≡ true) (asks : d.asks < length d.spokes.items) (r : SpokeReader) (at : slice_get d.polls.items d.asks ≡ Some r) where
  abbrev i : ℕ
  i = d.asks

  abbrev k : ℕ
  k = put_in d

  abbrev w : World
  w = world_of d

  abbrev hub : HubAt
  hub = hub_of d

  abbrev first : ℤ
  first = d.hub.hedge.bound

  abbrev spokes : ℕ
  spokes = length d.spokes.items

  abbrev events : List Event
  events = d.hub.events.items

  abbrev reader : Reader
  reader = r.reader

  here : IsPollAt run d i r
  here = is.polls i r at

  abbrev spoke : LagrangianSpoke
  spoke = (there d.spokes.items i asks).0

  spoke_there : slice_get d.spokes.items i ≡ Some spoke
  spoke_there = (there d.spokes.items i asks).1

  few : i < run.options.lagrangian
  few = let many = is.many_spokes in omega (arith, asks, many)

  shown : spoke_at w i ≡ spoke_of spoke
  shown = get_or-map spoke_of d.spokes.items i spoke no_spoke asks ∙ ap spoke_of (get_or_from_slice_get d.spokes.items i spoke spoke spoke_there)

  abbrev stamp_now : ℕ
  stamp_now = spoke_stamp (spoke_at w i)

  stamp_is : stamp_on d.board (run.options.ranks + i) ≡ stamp_now
  stamp_is = spoke_stamp_at run d d.asks is rule i spoke few (get_or_from_slice_get d.spokes.items i spoke spoke spoke_there) ∙ ap spoke_stamp (sym shown)

  -- the answer of the call that is due
  abbrev answer : ℕ
  answer = answer_at d.board 1 (due reader)

  first_part : reader.rank ≡ 0
  first_part = let below = here.reads.facts.below in let one = here.reads.one in omega (arith, below, one)

  read_stamp : (m : ℕ) → m ≡ answer_at d.board 1 (call.Begin (window_of reader)) → m ≡ stamp_now
  read_stamp m e = e ∙ (ap (λ j. answer_at d.board 1 (call.Begin j)) (let at_window = here.window in let zero_rank = first_part in let same : window_of reader ≡ run.options.ranks + i = omega (arith, at_window, zero_rank) in same) ∙ stamp_is)

  begins_at : reader.begun ≡ false → answer ≡ stamp_now
  begins_at off = read_stamp answer (ap (λ t. answer_at d.board 1 (if t then due_begun (nat_eq (part reader reader.rank).spare 0) (window_of reader) else call.Begin (window_of reader))) off)

  ends_at : reader.begun ≡ true → (part reader reader.rank).spare ≡ 0 → answer ≡ stamp_now
  ends_at on full = read_stamp answer (ap (λ t. answer_at d.board 1 (if t then due_begun (nat_eq (part reader reader.rank).spare 0) (window_of reader) else call.Begin (window_of reader))) on
      ∙ ap (λ m. answer_at d.board 1 (due_begun (nat_eq m 0) (window_of reader))) full)

  room : room_of (part reader 0) ≡ 3
  room = let one = here.reads.one in (here.reads.reads.laid 0 (omega (arith, one))).1
      ∙ ap (λ t. if t then 3 * cells_of (layout_in run) (reader.window + 0) else 3) (test_from_not_less (reader.window + 0) run.options.ranks (let behind = here.reads.spoke.behind in omega (arith, behind)))

  reading_is : hub.reading ≡ polling_of reader
  reading_is = ap (λ (x : SpokeReader). polling_of x.reader) (get_or_from_slice_get d.polls.items i r no_poll at)

  -- the hub's step in the world is one of its polling
  may : may_poll w ≡ true
  may = let l : i < length (map spoke_of d.spokes.items) = let same = length-map d.spokes.items spoke_of in omega (arith, same, asks) in
      λ j. ((sym is.wrote ∙ wrote) j) && (test_from_less i (length (map spoke_of d.spokes.items)) l j)

  hub_polls : (spent : Option ℕ) → step run first w spent actor.Hub ≡ with_hub w (polled run first spokes hub spent stamp_now hub.reading)
  hub_polls spent = ap (hub_step_by run first w spent) going
      ∙ (ap (λ t. if t then with_hub w (polled run first (length w.spokes) hub spent stamp_now hub.reading) else w) may
      ∙ ap (λ m. with_hub w (polled run first m hub spent stamp_now hub.reading)) (length-map d.spokes.items spoke_of))

  module _ (b' : Boards) (r' : SpokeReader) (said : ReplyRead) (calls : PollCalls run d.board b' r r' said) (v : Vec SpokeReader Global) (items : v.items ≡ set d.polls.items i r') where
    abbrev LeadsBy : ReplyRead → Type 0
    LeadsBy said = Leads run first spokes hub reader r'.reader answer stamp_now here.reads.facts here.reads.one room here.last reading_is calls.stands (read_of said)

    leads : LeadsBy said
    leads = poll_leads run first spokes hub reader r'.reader answer stamp_now here.reads.facts here.reads.one room here.last reading_is calls.stands (read_of said) calls.says begins_at ends_at

    -- the hub behind it
    abbrev behind : Hub → Driver
    behind hub' = record d { board = b'; polls = v; hub = hub' }

    record IsBehind (hub' : Hub) (n : ℕ) : Type 0 where
      hub_is : IsHub run hub'
      wrote_is : hub'.wrote ≡ d.hub.wrote
      end_is : hub'.end ≡ d.hub.end
      now : present hub'.events.items ≡ k
      others : (j : ℕ) → j ≢ i → last_taken j hub'.events.items ≡ last_taken j events
      mine : r'.reader.last ≡ last_taken i hub'.events.items
      order : next_spoke hub'.events.items ≤ n
      replies : All (IsReplied d.spokes.items) hub'.events.items

    hub_view : viewed b' 0 ≡ viewed d.board 0
    hub_view = calls.stays.others 0 (λ e. omega (arith, e))

    rank_stays : (j : ℕ) (rank : RankWriter) → IsRankAt run d.board k j rank → IsRankAt run b' k j rank
    rank_stays j rank h = dite (ℕ_discrete (j + 1) 1)
        (λ (same : j + 1 ≡ 1). record {
          rank_is = h.rank_is;
          stands = rank_reads (layout_in run) (viewed d.board (j + 1)) (viewed b' (j + 1)) rank k
              (subst (λ m. (viewed b' m).owned ≡ (viewed d.board m).owned) (sym same) calls.owned)
              (subst (λ m. (viewed b' m).pending ≡ (viewed d.board m).pending) (sym same) calls.pending) h.stands;
          within = h.within;
          shut = h.shut;
        })
        (λ (other : j + 1 ≢ 1). rank_on run 1 d.board b' calls.stays k j rank other h)

    module _ (hub' : Hub) (n : ℕ) (so : IsBehind hub' n) where
      poll_stays : (j : ℕ) (p : SpokeReader) → j ≢ i → IsPollAt run d j p → IsPollAt run (behind hub') j p
      poll_stays j p other h = record {
        window = h.window;
        reads = record {
          spoke = h.reads.spoke;
          one = h.reads.one;
          reads = record { laid = h.reads.reads.laid; reading = λ begun. absurd (other (sym (h.idle begun).0)); parts = h.reads.reads.parts };
          facts = h.reads.facts;
        };
        last = h.last ∙ sym (so.others j other);
        idle = λ begun. absurd (other (sym (h.idle begun).0));
      }

      poll_moves : IsPollAt run (behind hub') i r'
      poll_moves = record {
        window = calls.window ∙ here.window;
        reads = calls.reads;
        last = so.mine;
        idle = λ begun. (refl, so.end_is ∙ going, so.wrote_is ∙ wrote);
      }

      keeps : IsDriverTo run (behind hub') n
      keeps = record {
        of = is.of;
        board = calls.stays.meaning ∙ is.board;
        hub = so.hub_is;
        wrote = so.wrote_is ∙ (is.wrote ∙ sym (ap (is_written d.ranks.items) so.now));
        many_ranks = is.many_ranks;
        ranks = λ j rank e. subst (λ m. IsRankAt run b' m j rank) (sym so.now) (rank_stays j rank (is.ranks j rank e));
        many_spokes = is.many_spokes;
        spokes = λ j s e. subst (λ m. IsSpokeAt run b' m j s) (sym so.now) (spoke_on run 1 d.board b' calls.stays k j s (λ z. let some = some_ranks run in omega (arith, z, some)) (is.spokes j s e));
        many_polls = ap length items ∙ (length-set d.polls.items i r' ∙ is.many_polls);
        polls = subst (λ (xs : List SpokeReader). (j : ℕ) (p : SpokeReader) → slice_get xs j ≡ Some p → IsPollAt run (behind hub') j p) (sym items)
            (each_set d.polls.items i r' (IsPollAt run (behind hub')) (λ j p other e. poll_stays j p other (is.polls j p e)) poll_moves);
        order = λ e. so.order;
        taken = so.replies;
        hub_seat = ap (λ (x : View). x.hub) hub_view ∙ is.hub_seat;
        free = λ off. ap (λ (x : View). x.stopped) hub_view ∙ is.free off;
        at_stop = λ on. ap (λ (x : View). x.stopped) hub_view ∙ (is.at_stop on ∙ sym so.now);
        going = λ e. is.going going;
        ended = λ some. absurd (some (so.end_is ∙ going));
      }

      poll_is : poll_at (behind hub') i ≡ r'.reader
      poll_is = ap (λ (xs : List SpokeReader). (get_or xs i no_poll).reader) items
          ∙ ap (λ (x : SpokeReader). x.reader) (get_or-set_same d.polls.items i r' no_poll (slice_get_within d.polls.items i r at))

      polled_by : r'.reader.begun ≡ false → n ≡ i + 1 → IsPolled run (behind hub')
      polled_by off e = record { driver = subst (IsDriverTo run (behind hub')) e keeps; idle = ap (λ (x : Reader). x.begun) poll_is ∙ off }

    -- nothing is taken
    module _ (same_last : r'.reader.last ≡ reader.last) where
      so_same : (n : ℕ) → next_spoke events ≤ n → IsBehind d.hub n
      so_same n low = record { hub_is = is.hub; wrote_is = refl; end_is = refl; now = refl; others = λ j other. refl; mine = same_last ∙ here.last; order = low; replies = is.taken }

      going_keeps : IsDriver run (behind d.hub)
      going_keeps = keeps d.hub i (so_same i (is.order going))

      hub_here : hub_of (behind d.hub) ≡ record hub { reading = polling_of r'.reader }
      hub_here = λ j. record hub { reading = polling_of (poll_is d.hub i (so_same i (is.order going)) j) }

      going_steps : LeadsBy told.Going → Steps run d actor.Hub (behind d.hub)
      going_steps on = (None, ap (with_hub_of d) (hub_here ∙ sym (on None)) ∙ sym (hub_polls None))

      again_polled : IsPassed run first spokes hub reader r'.reader answer stamp_now here.reads.facts here.reads.one room here.last reading_is calls.stands → IsPolled run (behind d.hub)
      again_polled on = polled_by d.hub (i + 1) (so_same (i + 1) (let low = is.order going in omega (arith, low))) on.idle refl

      again_steps : IsPassed run first spokes hub reader r'.reader answer stamp_now here.reads.facts here.reads.one room here.last reading_is calls.stands → (d' : Driver) → PassesOn run (behind d.hub) d' → Steps run d actor.Hub d'
      again_steps on d' passes = (
        passes.0,
        passes.1 ∙ (ap (with_hub_of d) (ap (λ (h : HubAt). polled_on run first spokes h passes.0) hub_here ∙ (polled_but run first spokes hub (polling_of r'.reader) passes.0 ∙ sym (on.leads passes.0)))
            ∙ sym (hub_polls passes.0)),
      )

  -- where the reading goes on
  module _ (b' : Boards) (r' : SpokeReader) (calls : PollCalls run d.board b' r r' told.Going) (v : Vec SpokeReader Global) (items : v.items ≡ set d.polls.items i r') where
    pub goes_keeps : IsDriver run (behind b' r' told.Going calls v items d.hub)
    goes_keeps = going_keeps b' r' told.Going calls v items calls.tells

    pub goes_steps : Steps run d actor.Hub (behind b' r' told.Going calls v items d.hub)
    goes_steps = going_steps b' r' told.Going calls v items calls.tells (leads b' r' told.Going calls v items)

  -- where the spoke is passed over
  module _ (b' : Boards) (r' : SpokeReader) (again : Again) (calls : PollCalls run d.board b' r r' (told.Again again)) (v : Vec SpokeReader Global) (items : v.items ≡ set d.polls.items i r') where
    pub passed_polled : IsPolled run (behind b' r' (told.Again again) calls v items d.hub)
    passed_polled = again_polled b' r' (told.Again again) calls v items calls.tells.0 (leads b' r' (told.Again again) calls v items)

    pub passed_steps : (d' : Driver) → PassesOn run (behind b' r' (told.Again again) calls v items d.hub) d' → Steps run d actor.Hub d'
    passed_steps = again_steps b' r' (told.Again again) calls v items calls.tells.0 (leads b' r' (told.Again again) calls v items)

  -- A REPLY IS TAKEN

  -- the layout of the board is the run's
  layout_here : d.board.0.layout ≡ layout_in run
  layout_here = d.board.0.facts.layout_is ∙ ap layout_in (ap (λ (m : RunMeaning). m.run.value) is.board ∙ is.of)

  rank_stamp_is : stamp_on d.board 0 ≡ 2 * k
  rank_stamp_is =
      let some = some_ranks run in
      let there = slice_get-get_or d.ranks.items 0 no_rank (let many = is.many_ranks in omega (arith, some, many)) in
      let last = has_closed_put run d d.asks is wrote 0 (rank_at d.ranks.items 0) there in
      rank_stamp_at run d d.asks is rule 0 (omega (arith, some))
      ∙ (ap (stamp_in (rank_at d.ranks.items 0).last k) ((is.ranks 0 (rank_at d.ranks.items 0) there).shut last) ∙ ap (λ m. 2 * m) last)

  -- a reply's put was made
  made_by : (m : ℕ) → stamp_now ≡ 2 * m → m ≤ k
  made_by m e =
      let behind = here.reads.spoke.behind in let within = here.reads.spoke.there in let at_window = here.window in let some = some_ranks run in
      let ranks : d.board.0.layout.ranks ≡ run.options.ranks = ap (λ (l : Layout). l.ranks) layout_here in
      let windows : windows_of d.board.0.layout ≡ windows_of (layout_in run) = ap windows_of layout_here in
      let low = rule.following (run.options.ranks + i) 0 (omega (arith, ranks)) (omega (arith, windows, within, at_window)) (omega (arith, ranks, some)) in
      let spoke_stamp_here : stamp_on d.board (run.options.ranks + i) ≡ 2 * m = stamp_is ∙ e in
      let rank_here = rank_stamp_is in
      omega (arith, low, spoke_stamp_here, rank_here)

  replied_by : (m : ℕ) → stamp_now ≡ 2 * m → 1 ≤ m → Contains spoke.answers.items (Reply m (reply_of run i m))
  replied_by m e some =
      let last = last_reply spoke.answers.items spoke.reader.reader.last m spoke.phase (sym (ap spoke_stamp shown) ∙ e) some in
      let found = reply_there spoke.answers.items m (last_there (replied spoke.answers.items) m last some) in
      let stands = is.spokes i spoke spoke_there in
      let right : IsAnswer run spoke.number (Reply m found.0) = All-contains (IsAnswer run spoke.number) spoke.answers.items (Reply m found.0) stands.stands.spoke.answers.right found.1 in
      subst (λ (o : Option ℤ). Contains spoke.answers.items (Reply m o)) (right.1 ∙ ap (λ j. reply_of run j m) stands.number_is) found.1

  module _ (b' : Boards) (r' : SpokeReader) (put : ℕ) (value : Option ℤ) (calls : PollCalls run d.board b' r r' (told.Reading put value)) (v : Vec SpokeReader Global) (items : v.items ≡ set d.polls.items i r') where
    lead : IsRead run first spokes hub reader r'.reader answer stamp_now here.reads.facts here.reads.one room here.last reading_is calls.stands put
    lead = leads b' r' (told.Reading put value) calls v items

    value_is : value ≡ reply_of run i put
    value_is = calls.tells.3 i here.window

    some_put : 1 ≤ put
    some_put = let newer = calls.tells.0 in omega (arith, newer)

    may_take : MayPoll run events (Spoke i) put value
    may_take = (
      few,
      value_is,
      record {
        made = made_by put lead.stamped;
        order = is.order going;
        newer = let newer = calls.tells.0 in let last = here.last in omega (arith, newer, last);
      },
    )

    pub may_poll_it : MayPoll d.hub.run.value events (Spoke i) put value
    may_poll_it = subst (λ (x : Run). MayPoll x events (Spoke i) put value) (sym is.hub.of) may_take

    module _ (hub' : Hub) (hub_keeps : IsHub d.hub.run.value hub') (takes : Takes d.hub hub' i put value) where
      abbrev e : Event
      e = Take (Spoke i) put value hub'.ledger.pair.lower hub'.ledger.pair.upper

      hub_is : IsHub run hub'
      hub_is = subst (λ (x : Run). IsHub x hub') is.hub.of hub_keeps

      same_bound : hub'.hedge.bound ≡ first
      same_bound = ap (λ (x : Hedge). x.bound) takes.hedge

      so : IsBehind b' r' (told.Reading put value) calls v items hub' (i + 1)
      so = record {
        hub_is = hub_is;
        wrote_is = takes.wrote;
        end_is = takes.end;
        now = ap present takes.events ∙ present_more events e;
        others = λ j other. ap (last_taken j) takes.events ∙ (last_more events e j ∙ ap (λ t. if t then put else last_taken j events) (test_from_other i j (λ same. other (sym same))));
        mine = calls.tells.2 ∙ sym (ap (last_taken i) takes.events ∙ (last_more events e i ∙ ap (λ t. if t then put else last_taken i events) (test_from_same i i refl)));
        order = let next : next_spoke hub'.events.items ≡ i + 1 = ap next_spoke takes.events ∙ next_more events e in omega (arith, next);
        replies = subst (All (IsReplied d.spokes.items)) (sym takes.events)
            (All-append (IsReplied d.spokes.items) events (e ∷ []) is.taken
            (All-cons (IsReplied d.spokes.items) e [] (spoke, spoke_there, subst (λ (o : Option ℤ). Contains spoke.answers.items (Reply put o)) (sym value_is) (replied_by put lead.stamped some_put)) (All-nil (IsReplied d.spokes.items))));
      }

      abbrev behind_take : Driver
      behind_take = behind b' r' (told.Reading put value) calls v items hub'

      pub take_polled : IsPolled run behind_take
      take_polled = polled_by b' r' (told.Reading put value) calls v items hub' (i + 1) so lead.idle refl

      -- the pair that the take tells
      pair_is : hub'.ledger.pair ≡ pair_after first (bounds_of events ++ bound_from (Spoke i) (reply_of run i put) ∷ [])
      pair_is = hub_is.pair ∙ ((λ j. pair_in (same_bound j) (takes.events j))
          ∙ (ap (pair_after first) (bounds_take events (Spoke i) put value hub'.ledger.pair.lower hub'.ledger.pair.upper)
          ∙ ap (λ (o : Option ℤ). pair_after first (bounds_of events ++ bound_from (Spoke i) o ∷ [])) value_is))

      events_are : hub'.events.items ≡ taken first events (Spoke i) put (reply_of run i put)
      events_are = takes.events ∙ λ j. events ++ Take (Spoke i) put (value_is j) (pair_is j).lower (pair_is j).upper ∷ []

      abbrev hub_taken : HubAt
      hub_taken = record hub { events = taken first events (Spoke i) put (reply_of run i put) }

      hub_behind : hub_of behind_take ≡ record hub_taken { reading = polling_of r'.reader }
      hub_behind = λ j. record { events = events_are j; why = takes.end j; asks = i; reading = polling_of (poll_is b' r' (told.Reading put value) calls v items hub' (i + 1) so j); stopped = d.is_stopped }

      pub take_steps : (d' : Driver) → PassesOn run behind_take d' → Steps run d actor.Hub d'
      take_steps d' passes = (
        passes.0,
        passes.1 ∙ (ap (with_hub_of d) ((λ j. polled_on run (same_bound j) spokes (hub_behind j) passes.0) ∙ (polled_but run first spokes hub_taken (polling_of r'.reader) passes.0 ∙ sym (lead.leads passes.0)))
            ∙ sym (hub_polls passes.0)),
      )
