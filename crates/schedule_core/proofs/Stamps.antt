-- The stamps of a board's windows, by what the actors have written: those that the world tells.

use Rattle.std.proofs.Common.{arith, refl, sym, ap, ◌∙◌, ◌≡◌, ℕ, zero, suc, ◌+◌, ◌*◌, ◌<◌, true, false, List, [], ◌∷◌, map, length, get_or}
use Rattle.std.specs.Prelude.{Option, Some}
use Rattle.std.proofs.lemmas.List.{get_or_past}
use Rattle.std.proofs.lemmas.Option.{slice_get-get_or}
use mathlib.Core.Logic.{dite}
use mathlib.Core.Option.{some}
use native.Mathlib.Decide.{dec_le}
use lib.ListN.{get_elem?}
use Rattle.drive_words.specs.Shown.{spoke_of}
use Rattle.drive_words.specs.Worlds as worlds
use Rattle.lagrangian_spoke.specs.Answering.{replied}
use Rattle.lagrangian_spoke.specs.Spokes as spoke_words
use Rattle.lagrangian_spoke.specs.declared.spoke.LagrangianSpoke.{LagrangianSpoke}
use Rattle.lagrangian_spoke.specs.declared.spoke.Phase.{Phase}
use Rattle.lagrangian_spoke.specs.declared.spoke.Phase.TheVariants.{Asks, Reads, Opens, Writes, Ended}
use Rattle.log_words.specs.declared.log.Answer.{Answer}
use Rattle.plain_board.specs.Plain.{no_view, state}
use Rattle.put_codec.specs.Entries.{entry_of}
use Rattle.put_codec.specs.Layouts.{layout_in, width_of, windows_of}
use Rattle.put_codec.specs.declared.layout.Layout.{Layout}
use Rattle.put_codec.specs.declared.run_meaning.RunMeaning.{RunMeaning}
use Rattle.rank_writer.specs.Writers as rank_words
use Rattle.rank_writer.specs.declared.writer.RankWriter.{RankWriter}
use Rattle.rank_writer.specs.declared.writer.Writing.{Writing}
use Rattle.rank_writer.specs.declared.writer.Writing.TheVariants.{Open, Shut}
use Rattle.sp_model.specs.declared.run.Run.{Run}
use Rattle.window_words.specs.Rule.{Windows, stamp}
use Rattle.window_words.specs.Steps.{known}
use Rattle.window_words.specs.Views.{OwnsOne, last_of, one, stamp_of}
use Rattle.window_words.specs.declared.views.Pending.{Pending}
use Rattle.window_words.specs.declared.views.View.{View}
use Rattle.window_words.proofs.Keeping.{own_account}
use Rattle.schedule_core.specs.Drivers.{IsDriverTo, put_in}
use Rattle.schedule_core.specs.Seats.{Boards, viewed}
use Rattle.schedule_core.specs.declared.driver.Driver.{Driver}

-- the rule of a board's windows
abbrev pub Ruled : Boards → Type 0
Ruled b = Windows (entry_of b.0.run.value) (width_of b.0.layout) (windows_of b.0.layout) b.0.layout.ranks b.0.most b.0 (state b.0 b.1 b.2)

abbrev pub stamp_on : Boards → ℕ → ℕ
stamp_on b w = stamp (width_of b.0.layout) b.1 w

known_at : (of : RunMeaning) (vs : List View) (seat : ℕ) → seat < length vs → get_elem? (map (known of) vs) seat ≡ some (known of (get_or vs seat no_view))
known_at of [] seat l = absurd (omega arith)
known_at of (v ∷ vs) zero l = refl
known_at of (v ∷ vs) (suc seat) l = known_at of vs seat (omega arith)

module _ (b : Boards) where
  -- a seat of which something is known is there
  there : (seat : ℕ) → (viewed b seat ≡ no_view → ⊥) → seat < length b.2
  there seat some_view = dite (dec_le (suc seat) (length b.2)) (λ l. omega arith) (λ no. absurd (some_view (get_or_past b.2 seat no_view (omega arith))))

  owner_there : (seat w : ℕ) (closed : List ℕ) → OwnsOne (viewed b seat) w closed → seat < length b.2
  owner_there seat w closed owns = there seat (λ e. let none : [] ≡ one w closed = sym (ap (λ (v : View). v.owned) e) ∙ owns in cc)

  module _ (rule : Ruled b) where
    stamp_is : (seat w : ℕ) (closed : List ℕ) (o : Option Pending) → OwnsOne (viewed b seat) w closed → (viewed b seat).pending ≡ o → stamp_on b w ≡ stamp_of o closed
    stamp_is seat w closed o owns is =
        (own_account (entry_of b.0.run.value) (width_of b.0.layout) (windows_of b.0.layout) b.0.layout.ranks b.0.most b.0 (state b.0 b.1 b.2) rule
        seat (known b.0 (viewed b seat)) w closed o (known_at b.0 b.2 seat (owner_there seat w closed owns)) owns is).stamped

    rank_by : (last k : ℕ) (closed : List ℕ) (writing : Writing) → last_of closed ≡ last → stamp_of (rank_words.pending_in writing k) closed ≡ worlds.stamp_in last k writing
    rank_by last k closed Shut e = ap (λ n. 2 * n) e
    rank_by last k closed (Open n) e = refl

    pub rank_stamp_is : (layout : Layout) (seat k : ℕ) (w : RankWriter) → rank_words.StandsFor layout (viewed b seat) w k → stamp_on b w.rank ≡ worlds.rank_stamp w k
    rank_stamp_is layout seat k w h = stamp_is seat w.rank h.closed (rank_words.pending_in w.writing k) h.owns h.writes ∙ rank_by w.last k h.closed w.writing h.last

    spoke_by : (answers : List Answer) (k : ℕ) (phase : Phase) → stamp_of (spoke_words.pending_in phase k) (replied answers) ≡ worlds.reply_stamp answers k phase
    spoke_by answers k Asks = refl
    spoke_by answers k Reads = refl
    spoke_by answers k Opens = refl
    spoke_by answers k (Writes n) = refl
    spoke_by answers k Ended = refl

    pub spoke_stamp_is : (run : Run) (seat : ℕ) (s : LagrangianSpoke) → spoke_words.StandsFor run (viewed b seat) s → stamp_on b (run.options.ranks + s.number) ≡ worlds.spoke_stamp (spoke_of s)
    spoke_stamp_is run seat s h = stamp_is seat (run.options.ranks + s.number) (replied s.answers.items) (spoke_words.pending_in s.phase (spoke_words.read_last s)) h.owns h.opened ∙ spoke_by s.answers.items (spoke_words.read_last s) s.phase

    -- what the hub's seat knows of its stop
    pub stop_word : (seat : ℕ) → (viewed b seat).hub ≡ true → get_or b.1 0 0 ≡ (viewed b seat).stopped
    stop_word seat hub = sym ((rule.each seat (known b.0 (viewed b seat)) (known_at b.0 b.2 seat (there seat (λ e. let none : false ≡ true = sym (ap (λ (v : View). v.hub) e) ∙ hub in cc)))).hubs hub).2

-- the stamps as the world tells them
module _ (run : Run) (d : Driver) (n : ℕ) (is : IsDriverTo run d n) (rule : Ruled d.board) where
  pub rank_stamp_at : (i : ℕ) → i < run.options.ranks → stamp_on d.board i ≡ worlds.rank_stamp (worlds.rank_at d.ranks.items i) (put_in d)
  rank_stamp_at i l =
      let at = is.ranks i (worlds.rank_at d.ranks.items i) (slice_get-get_or d.ranks.items i worlds.no_rank (let many = is.many_ranks in omega (arith, l, many))) in
      ap (stamp_on d.board) (sym at.rank_is) ∙ rank_stamp_is d.board rule (layout_in run) (i + 1) (put_in d) (worlds.rank_at d.ranks.items i) at.stands

  pub spoke_stamp_at : (i : ℕ) (s : LagrangianSpoke) → i < run.options.lagrangian → get_or d.spokes.items i s ≡ s → stamp_on d.board (run.options.ranks + i) ≡ worlds.spoke_stamp (spoke_of s)
  spoke_stamp_at i s l e =
      let at = is.spokes i s (slice_get-get_or d.spokes.items i s (let many = is.many_spokes in omega (arith, l, many)) ∙ ap Some e) in
      ap (λ j. stamp_on d.board (run.options.ranks + j)) (sym at.number_is) ∙ spoke_stamp_is d.board rule run (run.options.ranks + 1 + i) s at.stands

  pub stop_is : get_or d.board.1 0 0 ≡ (viewed d.board 0).stopped
  stop_is = stop_word d.board rule 0 is.hub_seat
