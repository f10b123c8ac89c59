-- What a call that is made at one seat leaves as it was: what all other seats know, and where the
-- actors stand whose seats these are.

use Rattle.std.proofs.Common.{arith, sym, ap, subst, ◌∙◌, ◌≡◌, ◌≢◌, ℕ, ◌+◌, ◌≤◌, get_or, set, get_or-set_other}
use Rattle.lagrangian_spoke.specs.Spokes as spoke_words
use Rattle.lagrangian_spoke.specs.declared.spoke.LagrangianSpoke.{LagrangianSpoke}
use Rattle.plain_board.specs.Plain.{LeavesAll, no_view, selected, words_after}
use Rattle.put_codec.specs.Layouts.{layout_in, width_of}
use Rattle.put_codec.specs.declared.layout.Layout.{Layout}
use Rattle.put_codec.specs.declared.run_meaning.RunMeaning.{RunMeaning}
use Rattle.put_read.specs.SpokeReads.{ReadsSpoke}
use Rattle.put_read.specs.declared.spokes.SpokeReader.{SpokeReader}
use Rattle.rank_writer.specs.Writers as rank_words
use Rattle.rank_writer.specs.declared.writer.RankWriter.{RankWriter}
use Rattle.sp_model.specs.declared.run.Run.{Run}
use Rattle.window_words.specs.Views.{after}
use Rattle.window_words.specs.declared.views.Call.{Call}
use Rattle.window_words.specs.declared.views.View.{View}
use Rattle.schedule_core.specs.Drivers.{IsDriverTo, IsRankAt, IsSpokeAt}
use Rattle.schedule_core.specs.Seats.{Boards, StaysBut, answer_at, viewed}
use Rattle.schedule_core.specs.declared.driver.Driver.{Driver}

-- a board whose seat was selected
abbrev pub Selects : ℕ → Boards → Boards → Type 0
Selects seat b b1 = b1 ≡ (b.0, b.1, b.2, seat)

-- a call of the selected seat, with its answer
abbrev pub Leaves : Boards → Call → ℕ → Boards → Type 0
Leaves = LeavesAll (λ (m : RunMeaning). m.layout.ranks) (λ (m : RunMeaning). width_of m.layout)

module _ (b b1 : Boards) (seat : ℕ) (e1 : Selects seat b b1) where
  pub here : (P : View → Type 0) → P (viewed b seat) → P (selected b1)
  here P h = subst (λ (z : Boards). P (selected z)) (sym e1) h

  pub meaning_here : b1.0 ≡ b.0
  meaning_here = ap (λ (z : Boards). z.0) e1

  module _ (b2 : Boards) (call : Call) (n : ℕ) (left : Leaves b1 call n b2) where
    abbrev now : View
    now = after b1.0.layout.ranks call n (selected b1)

    both : b2 ≡ (b.0, words_after (width_of b1.0.layout) call (selected b1) b1.1, set b.2 seat now, seat)
    both = left.1 ∙ (λ i. ((e1 i).0, words_after (width_of b1.0.layout) call (selected b1) b1.1, set (e1 i).2 (e1 i).3 now, (e1 i).3))

    pub stays : StaysBut seat b b2
    stays = record {
      meaning = ap (λ (z : Boards). z.0) both;
      others = λ j other. ap (λ (z : Boards). get_or z.2 j no_view) both ∙ get_or-set_other b.2 seat j now no_view other;
    }

    pub there : (P : View → Type 0) → P (selected b2) → P (viewed b2 seat)
    there P h = subst (λ (z : ℕ). P (get_or b2.2 z no_view)) (ap (λ (z : Boards). z.3) both) h

    -- what was answered
    pub answers : n ≡ answer_at b seat call
    answers = left.0 ∙ ap (λ (z : Boards). answer_at z z.3 call) e1

    -- what the seat knows now
    pub knows_now : selected b2 ≡ now → viewed b2 seat ≡ after b.0.layout.ranks call n (viewed b seat)
    knows_now e = ap (λ (z : ℕ). get_or b2.2 z no_view) (sym (ap (λ (z : Boards). z.3) both))
        ∙ (e ∙ ap (λ (z : Boards). after z.0.layout.ranks call n (selected z)) e1)

-- the actors of other seats
module _ (run : Run) (seat : ℕ) (b b' : Boards) (only : StaysBut seat b b') where
  pub rank_on : (k i : ℕ) (w : RankWriter) → i + 1 ≢ seat → IsRankAt run b k i w → IsRankAt run b' k i w
  rank_on k i w other h = record {
    rank_is = h.rank_is;
    stands = subst (λ (v : View). rank_words.StandsFor (layout_in run) v w k) (sym (only.others (i + 1) other)) h.stands;
    within = h.within;
    shut = h.shut;
  }

  pub spoke_on : (k i : ℕ) (s : LagrangianSpoke) → run.options.ranks + 1 + i ≢ seat → IsSpokeAt run b k i s → IsSpokeAt run b' k i s
  spoke_on k i s other h = record {
    number_is = h.number_is;
    stands = subst (λ (v : View). spoke_words.StandsFor run v s) (sym (only.others (run.options.ranks + 1 + i) other)) h.stands;
    within = h.within;
  }

-- a rank's seat that reads
pub rank_reads : (layout : Layout) (v v' : View) (w : RankWriter) (k : ℕ) → v'.owned ≡ v.owned → v'.pending ≡ v.pending → rank_words.StandsFor layout v w k → rank_words.StandsFor layout v' w k
rank_reads layout v v' w k owned pending h = record {
  there = h.there;
  width = h.width;
  within = h.within;
  closed = h.closed;
  owns = owned ∙ h.owns;
  last = h.last;
  writes = pending ∙ h.writes;
}

-- a reader of replies whose seat does something else
pub poll_on : (run : Run) (v v' : View) (r : SpokeReader) → v'.reading ≡ v.reading → ReadsSpoke run v r → ReadsSpoke run v' r
poll_on run v v' r same h = record {
  spoke = h.spoke;
  one = h.one;
  reads = record { laid = h.reads.laid; reading = λ begun. same ∙ h.reads.reading begun; parts = h.reads.parts };
  facts = h.facts;
}

-- where no spoke from n on was asked, none from a later one on was
pub later : (run : Run) (d : Driver) (n m : ℕ) → n ≤ m → IsDriverTo run d n → IsDriverTo run d m
later run d n m more is = record {
  of = is.of;
  board = is.board;
  hub = is.hub;
  wrote = is.wrote;
  many_ranks = is.many_ranks;
  ranks = is.ranks;
  many_spokes = is.many_spokes;
  spokes = is.spokes;
  many_polls = is.many_polls;
  polls = is.polls;
  order = λ going. let low = is.order going in omega (arith, low, more);
  taken = is.taken;
  hub_seat = is.hub_seat;
  free = is.free;
  at_stop = is.at_stop;
  going = is.going;
  ended = is.ended;
}
