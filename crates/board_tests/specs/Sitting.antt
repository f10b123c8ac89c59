-- When the seat of a board stands for the actor that sits at it.

use Rattle.std.specs.Prelude.{◌≡◌, ℕ, ◌+◌, ◌≤◌, true, false, All, slice_index_or, ◌⊎◌}
use Rattle.sp_model.specs.Problems.{scenarios}
use Rattle.sp_model.specs.ScenarioPoints.{HavePoints}
use Rattle.sp_model.specs.declared.run.Run.{Run}
use Rattle.window_words.specs.Seating.{fresh_views, no_view}
use Rattle.window_words.specs.declared.views.Call.{Call}
use Rattle.window_words.specs.declared.views.View.{View}
use Rattle.put_codec.specs.Layouts.{layout_in, windows_of}
use Rattle.put_read.specs.Reads.{ReadsPuts}
use Rattle.put_read.specs.SpokeReads.{ReadsSpoke}
use Rattle.rank_writer.specs.Writers as rank
use Rattle.rank_writer.specs.declared.writer.RankWriter.{RankWriter}
use Rattle.lagrangian_spoke.specs.Spokes.{IsPutOf, StandsFor}
use Rattle.board_tests.specs.declared.actors.Actor.{Actor}
use Rattle.board_tests.specs.declared.actors.Actor.TheVariants.{Hub, Rank, Spoke, Reader, Gone}
use Rattle.board_tests.specs.declared.actors.HubSeat.{HubSeat}
use Rattle.board_tests.specs.declared.given.Given.{Given}

-- what is given belongs to one run, which has puts and three spokes
pub record IsGiven (g : Given) : Type 0 where
  pub of : g.of.run.value ≡ g.run
  pub puts : All (IsPutOf g.run) g.puts
  pub spokes : 3 ≤ g.run.options.lagrangian
  pub points : HavePoints g.run (scenarios g.run)

-- the hub's seat: a reader of replies reads for it, and where it hasn't stopped it may
pub record SitsHub (run : Run) (v : View) (h : HubSeat) : Type 0 where
  pub reads : ReadsSpoke run v h.poll
  pub runs : h.has_stopped ≡ false → (v.hub ≡ true) × (v.stopped ≡ 0)

-- a rank writes the put behind the last one that it closed
abbrev pub WritesNext : Run → View → RankWriter → Type 0
WritesNext run v w = rank.StandsFor (layout_in run) v w (w.last + 1)

-- a seat with this view stands for the actor
abbrev pub Sits : Run → View → Actor → Type 0
Sits run v (Hub h) = SitsHub run v h
Sits run v (Rank w) = WritesNext run v w
Sits run v (Spoke s) = StandsFor run v s
Sits run v (Reader r) = ReadsPuts run v r
Sits run v Gone = Unit {0}

-- so does the seat at a place of a fresh board
abbrev pub SitsFresh : Given → ℕ → Actor → Type 0
SitsFresh g place a =
    Sits g.run (slice_index_or (fresh_views (windows_of g.of.layout)) place no_view) a

-- no call of the board was made, or one
abbrev pub Makes : {X : Type 0} → (X → Call → ℕ → X → Type 0) → X → X → Type 0
Makes leaves b b' = (b' ≡ b) ⊎ ((call : Call) × (n : ℕ) × leaves b call n b')
