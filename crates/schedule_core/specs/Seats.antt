-- What a call that is made at one seat of the board leaves, and where it leads the actor whose seat
-- it is.

use Rattle.std.specs.Prelude.{◌≡◌, ◌≢◌, ℕ, slice_index_or}
use Rattle.lagrangian_spoke.specs.Spokes as spoke_words
use Rattle.lagrangian_spoke.specs.declared.spoke.LagrangianSpoke.{LagrangianSpoke}
use Rattle.log_words.specs.declared.step.SpokeStep.{SpokeStep}
use Rattle.plain_board.specs.Plain.{PlainValue, answer_of, no_view}
use Rattle.put_codec.specs.Layouts.{width_of}
use Rattle.put_codec.specs.declared.layout.Layout.{Layout}
use Rattle.put_codec.specs.declared.run_meaning.RunMeaning.{RunMeaning}
use Rattle.put_read.specs.SpokeReads.{ReadsSpoke, TellsReply, read_of}
use Rattle.put_read.specs.declared.spokes.ReplyRead.{ReplyRead}
use Rattle.put_read.specs.declared.spokes.SpokeReader.{SpokeReader}
use Rattle.rank_writer.specs.Writers as rank_words
use Rattle.rank_writer.specs.declared.writer.RankWriter.{RankWriter}
use Rattle.sp_model.specs.declared.run.Run.{Run}
use Rattle.stamped_read.specs.Readers.{due, next, read_told}
use Rattle.window_words.specs.Views.{with_stopped}
use Rattle.window_words.specs.declared.views.Call.{Call}
use Rattle.window_words.specs.declared.views.View.{View}

-- the board of a run
abbrev pub Boards : Type 0
Boards = PlainValue RunMeaning

-- what a seat of the board knows
abbrev pub viewed : Boards → ℕ → View
viewed b seat = slice_index_or b.2 seat no_view

-- only one seat's view is changed
pub record StaysBut (seat : ℕ) (b b' : Boards) : Type 0 where
  pub meaning : b'.0 ≡ b.0
  pub others : (j : ℕ) → j ≢ seat → viewed b' j ≡ viewed b j

-- what a call of a seat answers
abbrev pub answer_at : Boards → ℕ → Call → ℕ
answer_at b seat call = answer_of (width_of b.0.layout) call (viewed b seat) b.1

-- a rank made the call at its seat that is due while put k is the present one; what the seat is
-- reading stays
pub record RankCalls (layout : Layout) (b b' : Boards) (seat k : ℕ) (w w' : RankWriter)
    : Type 0 where
  pub stays : StaysBut seat b b'
  pub stands : rank_words.StandsFor layout (viewed b' seat) w' k
  pub writes : w' ≡ rank_words.written w k
  pub reading : (viewed b' seat).reading ≡ (viewed b seat).reading

-- a spoke made the call at its seat that is due
pub record SpokeCalls (run : Run) (b b' : Boards) (seat : ℕ) (s s' : LagrangianSpoke)
    (told : SpokeStep) : Type 0 where
  pub stays : StaysBut seat b b'
  pub stands : spoke_words.StandsFor run (viewed b' seat) s'
  pub leads : spoke_words.Leads s s' (answer_at b seat (spoke_words.due_in s s.phase)) s.phase told

-- a reader of a spoke's replies made the call at the first rank's seat that is due; what that seat
-- writes stays
pub record PollCalls (run : Run) (b b' : Boards) (r r' : SpokeReader) (told : ReplyRead)
    : Type 0 where
  pub stays : StaysBut 1 b b'
  pub owned : (viewed b' 1).owned ≡ (viewed b 1).owned
  pub pending : (viewed b' 1).pending ≡ (viewed b 1).pending
  pub reads : ReadsSpoke run (viewed b' 1) r'
  pub window : r'.reader.window ≡ r.reader.window
  pub says : read_of told
      ≡ read_told (due r.reader) r.reader (answer_at b 1 (due r.reader))
  pub stands : r'.reader ≡ next (due r.reader) r.reader (answer_at b 1 (due r.reader))
  pub tells : TellsReply run r r' told

-- the hub stopped at its seat
pub record HubStops (b b' : Boards) (last : ℕ) : Type 0 where
  pub stays : StaysBut 0 b b'
  pub knows : viewed b' 0 ≡ with_stopped (viewed b 0) last
