-- A bench as it is made, and after a step of each actor.
use Rattle.std.proofs.Common.{sym, refl, ap, ◌∙◌, subst, arith, ◌≡◌, ◌≢◌, ℕ, zero, suc, ◌+◌, ◌<◌, ◌≤◌, Bool, true, false, List, [], ◌∷◌, length, get_or, set, get_or-set_other, get_or-set_same}
use mathlib.Core.Logic.{dite}
use native.Mathlib.Decide.{ℕ_discrete}
use Rattle.std.specs.List.{All}
use Rattle.std.proofs.lemmas.List.{length-replicate, length-set}
use Rattle.std.proofs.lemmas.List.FromFn.{get_or-map-range_with_len}
use Rattle.window_words.specs.Views.{gained, one}
use Rattle.window_words.specs.declared.views.View.{View}
use Rattle.window_words.specs.declared.views.Call.TheVariants.{Stop}
use Rattle.plain_board.specs.Plain.{fresh_board, fresh_views, no_view, owner_view}
use Rattle.sp_model.specs.declared.run.Run.{Run}
use Rattle.run_calls.specs.declared.put.Put.{Put}
use Rattle.put_codec.specs.Layouts.{layout_in, width_of, windows_of}
use Rattle.put_codec.specs.declared.run_meaning.RunMeaning.{RunMeaning}
use Rattle.put_read.specs.Reads.{ReadsPuts}
use Rattle.put_read.specs.SpokeReads.{IsSpokeWindow, ReadsSpoke}
use Rattle.put_read.specs.declared.reader.PutReader.{PutReader}
use Rattle.put_read.specs.declared.spokes.SpokeReader.{SpokeReader}
use Rattle.lagrangian_spoke.specs.Spokes.{IsNewSeat, IsPutOf, StandsFor}
use Rattle.lagrangian_spoke.specs.declared.spoke.LagrangianSpoke.{LagrangianSpoke}
use Rattle.spoke_tests.specs.Benches.{AreSeated}
use Rattle.spoke_tests.specs.Seats.{IsFree, StaysBut, WritesAt, viewed}
use Rattle.spoke_tests.proofs.Parts.{wrote_none}
use Rattle.spoke_tests.proofs.Seating.{Boards, board_on, seat_on}

-- a fact of each rank, where one is changed
each_rank : (P : ℕ → ℕ → ℕ → Type 0) (nexts steps : List ℕ) (n w next step : ℕ) → w < length nexts → w < length steps → ((u : ℕ) → u < n → u ≢ w → P u (get_or nexts u 0) (get_or steps u 0)) → P w next step → (u : ℕ) → u < n → P u (get_or (set nexts w next) u 0) (get_or (set steps w step) u 0)
each_rank P nexts steps n w next step l m others mine u below = dite (ℕ_discrete u w)
    (λ (e : u ≡ w). subst (λ (z : ℕ). P z (get_or (set nexts w next) z 0) (get_or (set steps w step) z 0)) (sym e)
    (subst (λ (z : ℕ × ℕ). P w z.0 z.1) (λ i. (sym (get_or-set_same nexts w next 0 l) i, sym (get_or-set_same steps w step 0 m) i)) mine))
    (λ (e : u ≢ w). subst (λ (z : ℕ × ℕ). P u z.0 z.1) (λ i. (sym (get_or-set_other nexts w u next 0 e) i, sym (get_or-set_other steps w u step 0 e) i)) (others u below e))

module _ (run : Run) (b b' : Boards) (s : LagrangianSpoke) (r : PutReader) (p : SpokeReader) (puts : List Put) (nexts steps : List ℕ) (stopped : Bool) (h : AreSeated run b s r p puts nexts steps stopped) where
  -- a rank's step
  module _ (w : ℕ) (below : w < run.options.ranks) (stays : StaysBut (w + 1) b b') where
    next_there : w < length nexts
    next_there = let few = h.ranks in let two = h.two.0 in omega arith

    step_there : w < length steps
    step_there = let few = h.ranks in let two = h.two.1 in omega arith

    wrote : (next step : ℕ) → step < width_of (layout_in run) w + 2 → WritesAt (width_of (layout_in run) w) w next step (viewed b' (w + 1)) → AreSeated run b' s r p puts (set nexts w next) (set steps w step) stopped
    wrote next step few writes = record {
      board = board_on (w + 1) b b' stays run h.board;
      ranks = h.ranks;
      spokes = h.spokes;
      puts = h.puts;
      two = (length-set nexts w next ∙ h.two.0, length-set steps w step ∙ h.two.1);
      made = each_rank (λ (u n st : ℕ). st < width_of (layout_in run) u + 2) nexts steps run.options.ranks w next step next_there step_there (λ u under other. h.made u under) few;
      writes = each_rank (λ (u n st : ℕ). WritesAt (width_of (layout_in run) u) u n st (viewed b' (u + 1))) nexts steps run.options.ranks w next step next_there step_there
          (λ u under other. seat_on (w + 1) b b' stays (WritesAt (width_of (layout_in run) u) u (get_or nexts u 0) (get_or steps u 0)) (u + 1) (λ e. other (omega arith)) (h.writes u under)) writes;
      spoke = seat_on (w + 1) b b' stays (λ v. StandsFor run v s) (run.options.ranks + 1) (λ e. omega arith) h.spoke;
      reader = seat_on (w + 1) b b' stays (λ v. ReadsPuts run v r) (run.options.ranks + 2) (λ e. omega arith) h.reader;
      poll = seat_on (w + 1) b b' stays (λ v. ReadsSpoke run v p) (run.options.ranks + 3) (λ e. omega arith) h.poll;
      hub = seat_on (w + 1) b b' stays (λ v. v.hub ≡ true) 0 (λ e. omega arith) h.hub;
      free = λ still. seat_on (w + 1) b b' stays (λ v. v.stopped ≡ 0) 0 (λ e. omega arith) (h.free still);
    }

    -- after one more step of the rank, counted
    pub stepped : (next' step' : ℕ) → (get_or steps w 0 ≡ width_of (layout_in run) w + 1 → (next' ≡ get_or nexts w 0 + 1) × (step' ≡ 0)) → (get_or steps w 0 < width_of (layout_in run) w + 1 → (next' ≡ get_or nexts w 0) × (step' ≡ get_or steps w 0 + 1))
        → WritesAt (width_of (layout_in run) w) w (get_or nexts w 0) (get_or steps w 0 + 1) (viewed b' (w + 1)) → AreSeated run b' s r p puts (set nexts w next') (set steps w step') stopped
    stepped next' step' closed goes writes = let fits = h.made w below in dite (ℕ_discrete (get_or steps w 0) (width_of (layout_in run) w + 1))
        (λ (e : get_or steps w 0 ≡ width_of (layout_in run) w + 1). let c = closed e in let is = c.0 in let none = c.1 in wrote next' step' (omega arith)
        (subst (λ (z : ℕ × ℕ). WritesAt (width_of (layout_in run) w) w z.0 z.1 (viewed b' (w + 1))) (λ i. (sym is i, sym none i)) (wrote_none (width_of (layout_in run) w) w (get_or nexts w 0 + 1) (viewed b' (w + 1)) (writes.behind (omega arith)))))
        (λ (e : get_or steps w 0 ≢ width_of (layout_in run) w + 1). let c = goes (omega arith) in let is = c.0 in let one = c.1 in wrote next' step' (omega arith)
        (subst (λ (z : ℕ × ℕ). WritesAt (width_of (layout_in run) w) w z.0 z.1 (viewed b' (w + 1))) (λ i. (sym is i, sym one i)) writes))

  -- the spoke's step
  pub replied : (s' : LagrangianSpoke) → StandsFor run (viewed b' (run.options.ranks + 1)) s' → StaysBut (run.options.ranks + 1) b b' → AreSeated run b' s' r p puts nexts steps stopped
  replied s' stands stays = record {
    board = board_on (run.options.ranks + 1) b b' stays run h.board;
    ranks = h.ranks;
    spokes = h.spokes;
    puts = h.puts;
    two = h.two;
    made = h.made;
    writes = λ w below. seat_on (run.options.ranks + 1) b b' stays (WritesAt (width_of (layout_in run) w) w (get_or nexts w 0) (get_or steps w 0)) (w + 1) (λ e. omega arith) (h.writes w below);
    spoke = stands;
    reader = seat_on (run.options.ranks + 1) b b' stays (λ v. ReadsPuts run v r) (run.options.ranks + 2) (λ e. omega arith) h.reader;
    poll = seat_on (run.options.ranks + 1) b b' stays (λ v. ReadsSpoke run v p) (run.options.ranks + 3) (λ e. omega arith) h.poll;
    hub = seat_on (run.options.ranks + 1) b b' stays (λ v. v.hub ≡ true) 0 (λ e. omega arith) h.hub;
    free = λ still. seat_on (run.options.ranks + 1) b b' stays (λ v. v.stopped ≡ 0) 0 (λ e. omega arith) (h.free still);
  }

  -- the reader's step
  pub has_read : (r' : PutReader) → ReadsPuts run (viewed b' (run.options.ranks + 2)) r' → StaysBut (run.options.ranks + 2) b b' → AreSeated run b' s r' p puts nexts steps stopped
  has_read r' reads stays = record {
    board = board_on (run.options.ranks + 2) b b' stays run h.board;
    ranks = h.ranks;
    spokes = h.spokes;
    puts = h.puts;
    two = h.two;
    made = h.made;
    writes = λ w below. seat_on (run.options.ranks + 2) b b' stays (WritesAt (width_of (layout_in run) w) w (get_or nexts w 0) (get_or steps w 0)) (w + 1) (λ e. omega arith) (h.writes w below);
    spoke = seat_on (run.options.ranks + 2) b b' stays (λ v. StandsFor run v s) (run.options.ranks + 1) (λ e. omega arith) h.spoke;
    reader = reads;
    poll = seat_on (run.options.ranks + 2) b b' stays (λ v. ReadsSpoke run v p) (run.options.ranks + 3) (λ e. omega arith) h.poll;
    hub = seat_on (run.options.ranks + 2) b b' stays (λ v. v.hub ≡ true) 0 (λ e. omega arith) h.hub;
    free = λ still. seat_on (run.options.ranks + 2) b b' stays (λ v. v.stopped ≡ 0) 0 (λ e. omega arith) (h.free still);
  }

  -- the step of the reader of replies
  pub has_polled : (p' : SpokeReader) → ReadsSpoke run (viewed b' (run.options.ranks + 3)) p' → StaysBut (run.options.ranks + 3) b b' → AreSeated run b' s r p' puts nexts steps stopped
  has_polled p' reads stays = record {
    board = board_on (run.options.ranks + 3) b b' stays run h.board;
    ranks = h.ranks;
    spokes = h.spokes;
    puts = h.puts;
    two = h.two;
    made = h.made;
    writes = λ w below. seat_on (run.options.ranks + 3) b b' stays (WritesAt (width_of (layout_in run) w) w (get_or nexts w 0) (get_or steps w 0)) (w + 1) (λ e. omega arith) (h.writes w below);
    spoke = seat_on (run.options.ranks + 3) b b' stays (λ v. StandsFor run v s) (run.options.ranks + 1) (λ e. omega arith) h.spoke;
    reader = seat_on (run.options.ranks + 3) b b' stays (λ v. ReadsPuts run v r) (run.options.ranks + 2) (λ e. omega arith) h.reader;
    poll = reads;
    hub = seat_on (run.options.ranks + 3) b b' stays (λ v. v.hub ≡ true) 0 (λ e. omega arith) h.hub;
    free = λ still. seat_on (run.options.ranks + 3) b b' stays (λ v. v.stopped ≡ 0) 0 (λ e. omega arith) (h.free still);
  }

  -- the hub has stopped
  pub has_stopped : viewed b' 0 ≡ gained (Stop 1) 0 (viewed b 0) → StaysBut 0 b b' → AreSeated run b' s r p puts nexts steps true
  has_stopped knows stays = record {
    board = board_on 0 b b' stays run h.board;
    ranks = h.ranks;
    spokes = h.spokes;
    puts = h.puts;
    two = h.two;
    made = h.made;
    writes = λ w below. seat_on 0 b b' stays (WritesAt (width_of (layout_in run) w) w (get_or nexts w 0) (get_or steps w 0)) (w + 1) (λ e. omega arith) (h.writes w below);
    spoke = seat_on 0 b b' stays (λ v. StandsFor run v s) (run.options.ranks + 1) (λ e. omega arith) h.spoke;
    reader = seat_on 0 b b' stays (λ v. ReadsPuts run v r) (run.options.ranks + 2) (λ e. omega arith) h.reader;
    poll = seat_on 0 b b' stays (λ v. ReadsSpoke run v p) (run.options.ranks + 3) (λ e. omega arith) h.poll;
    hub = ap (λ (v : View). v.hub) knows ∙ h.hub;
    free = λ (still : true ≡ false). absurd (let x = still in cc);
  }

-- two ranks that have made nothing
abbrev pub firsts : List ℕ
firsts = 1 ∷ 1 ∷ []

abbrev pub no_steps : List ℕ
no_steps = 0 ∷ 0 ∷ []

first_next : (w : ℕ) → w < 2 → get_or firsts w 0 ≡ 1
first_next zero below = refl
first_next (suc zero) below = refl
first_next (suc (suc w)) below = absurd (omega arith)

no_step : (w : ℕ) → w < 2 → get_or no_steps w 0 ≡ 0
no_step zero below = refl
no_step (suc zero) below = refl
no_step (suc (suc w)) below = absurd (omega arith)

-- a bench on which nothing is made
module _ (run : Run) (m : RunMeaning) (b : Boards) (e : b ≡ fresh_board (λ (z : RunMeaning). width_of z.layout) (λ (z : RunMeaning). windows_of z.layout) m) (of : m.run.value ≡ run) (ranks : run.options.ranks ≤ 2) (spokes : 3 ≤ run.options.lagrangian) where
  many : run.options.ranks + 3 ≤ windows_of m.layout
  many =
      let same : m.layout ≡ layout_in run = m.facts.layout_is ∙ ap layout_in of in
      let all : windows_of m.layout ≡ windows_of (layout_in run) = ap windows_of same in
      omega arith

  owner : (w : ℕ) → w < windows_of m.layout → viewed b (w + 1) ≡ owner_view (windows_of m.layout) w
  owner w below = let next : w + 1 ≡ suc w = omega arith in
      ap (λ (z : Boards). get_or z.2 (w + 1) no_view) e
      ∙ (ap (λ (z : ℕ). get_or (fresh_views (windows_of m.layout)) z no_view) next ∙ get_or-map-range_with_len (owner_view (windows_of m.layout)) 0 (windows_of m.layout) w w no_view below (omega arith))

  -- the owner of any window
  at_owner : (P : View → Type 0) (w : ℕ) → w < windows_of m.layout → P (owner_view (windows_of m.layout) w) → P (viewed b (w + 1))
  at_owner P w below h = subst P (sym (owner w below)) h

  wide_view : (w : ℕ) → run.options.ranks ≤ length (owner_view (windows_of m.layout) w).accepted
  wide_view w = let some = many in let none : List ℕ = [] in let long = length-replicate (windows_of m.layout) none in omega arith

  pub fresh_spoke : IsNewSeat run.options.ranks (run.options.ranks + 0) (viewed b (run.options.ranks + 1))
  fresh_spoke = let some = many in let same : run.options.ranks + 0 ≡ run.options.ranks = omega arith in
      at_owner (IsNewSeat run.options.ranks (run.options.ranks + 0)) run.options.ranks (omega arith) (record {
        owns = ap (λ (z : ℕ). one z []) (sym same);
        free = refl;
        wide = wide_view run.options.ranks;
      })

  pub fresh_reader : run.options.ranks ≤ length (viewed b (run.options.ranks + 2)).accepted
  fresh_reader = let some = many in let next : (run.options.ranks + 1) + 1 ≡ run.options.ranks + 2 = omega arith in
      subst (λ (z : ℕ). run.options.ranks ≤ length (viewed b z).accepted) next (at_owner (λ v. run.options.ranks ≤ length v.accepted) (run.options.ranks + 1) (omega arith) (wide_view (run.options.ranks + 1)))

  fresh_rank : (w : ℕ) → w < run.options.ranks → IsFree w 1 (viewed b (w + 1))
  fresh_rank w below = let some = many in at_owner (IsFree w 1) w (omega arith) ([], refl, omega arith, refl)

  fresh_poll : IsSpokeWindow run run.options.ranks
  fresh_poll = let some = many in record { behind = omega arith; there = omega arith }

  pub fresh_bench : (s : LagrangianSpoke) (r : PutReader) (p : SpokeReader) (puts : List Put) → All (IsPutOf run) puts
      → ((v : View) → IsNewSeat run.options.ranks (run.options.ranks + 0) v → StandsFor run v s) → ((v : View) → run.options.ranks ≤ length v.accepted → ReadsPuts run v r) → ((v : View) → IsSpokeWindow run run.options.ranks → ReadsSpoke run v p) → AreSeated run b s r p puts firsts no_steps false
  fresh_bench s r p puts are stands reads polls = record {
    board = ap (λ (z : Boards). z.0.run.value) e ∙ of;
    ranks = ranks;
    spokes = spokes;
    puts = are;
    two = (refl, refl);
    made = λ w below. let z = no_step w (omega arith) in omega arith;
    writes = λ w below. subst (λ (z : ℕ × ℕ). WritesAt (width_of (layout_in run) w) w z.0 z.1 (viewed b (w + 1))) (λ i. (sym (first_next w (omega arith)) i, sym (no_step w (omega arith)) i))
        (wrote_none (width_of (layout_in run) w) w 1 (viewed b (w + 1)) (fresh_rank w below));
    spoke = stands (viewed b (run.options.ranks + 1)) fresh_spoke;
    reader = reads (viewed b (run.options.ranks + 2)) fresh_reader;
    poll = polls (viewed b (run.options.ranks + 3)) fresh_poll;
    hub = ap (λ (z : Boards). (get_or z.2 0 no_view).hub) e;
    free = λ still. ap (λ (z : Boards). (get_or z.2 0 no_view).stopped) e;
  }
