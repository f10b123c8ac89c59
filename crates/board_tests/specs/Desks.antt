-- The seats of a board with their actors.

use Rattle.std.specs.Prelude.{◌≡◌, ◌≢◌, ℕ, ◌+◌, ◌<◌, ◌≤◌, List, length, slice_index_or}
use Rattle.window_words.specs.Seating.{fresh_views}
use Rattle.window_words.specs.declared.views.View.{View}
use Rattle.plain_board.specs.Plain.{PlainValue, no_view}
use Rattle.table_board.specs.Tables.{SeatValue}
use Rattle.put_codec.specs.Layouts.{windows_of}
use Rattle.put_codec.specs.declared.run_meaning.RunMeaning.{RunMeaning}
use Rattle.put_read.specs.Reads.{ReadsPuts}
use Rattle.put_read.specs.declared.reader.PutReader.{PutReader}
use Rattle.rank_writer.specs.declared.writer.RankWriter.{RankWriter}
use Rattle.sp_model.specs.declared.run.Run.{Run}
use Rattle.board_tests.specs.Sitting.{IsGiven, Sits, SitsFresh, WritesNext}
use Rattle.board_tests.specs.declared.actors.Actor.{Actor}
use Rattle.board_tests.specs.declared.given.Given.{Given}

-- what a seat knows
abbrev pub viewed : PlainValue RunMeaning → ℕ → View
viewed b seat = slice_index_or b.2 seat no_view

-- only one seat's view is changed
pub record StaysBut (seat : ℕ) (b b' : PlainValue RunMeaning) : Type 0 where
  pub meaning : b'.0 ≡ b.0
  pub others : (j : ℕ) → j ≢ seat → viewed b' j ≡ viewed b j

-- the actors at the seats of a fresh board
abbrev pub AreFresh : Given → List Actor → Type 0
AreFresh g actors = (length actors ≤ windows_of g.of.layout + 1)
    × ((place : ℕ) (d : Actor) → place < length actors
    → SitsFresh g place (slice_index_or actors place d))

-- each seat of a board stands for its actor
pub record IsPlainDesk (g : Given) (b : PlainValue RunMeaning) (actors : List Actor) : Type 0 where
  pub given : IsGiven g
  pub of : b.0 ≡ g.of
  pub few : length actors ≤ windows_of g.of.layout + 1
  pub sits : (i : ℕ) (d : Actor) → i < length actors
      → Sits g.run (viewed b i) (slice_index_or actors i d)

-- a seat of a table stands for its actor
pub record IsSeated (g : Given) (s : SeatValue RunMeaning) (a : Actor) : Type 0 where
  pub given : IsGiven g
  pub of : s.1 ≡ g.of
  pub sits : Sits g.run s.2 a

-- a reader of puts reads for a seat of a table, and a rank writes at one
pub record IsReading (run : Run) (s : SeatValue RunMeaning) (r : PutReader) : Type 0 where
  pub run_is : s.1.run.value ≡ run
  pub reads : ReadsPuts run s.2 r

pub record IsWriting (g : Given) (s : SeatValue RunMeaning) (w : RankWriter) : Type 0 where
  pub given : IsGiven g
  pub of : s.1 ≡ g.of
  pub writes : WritesNext g.run s.2 w

-- a seat of a fresh board with the meaning that is given, by its place
abbrev pub IsFreshSeat : Given → ℕ → SeatValue RunMeaning → Type 0
IsFreshSeat g place s = (s.1 ≡ g.of)
    × (s.2 ≡ slice_index_or (fresh_views (windows_of g.of.layout)) place no_view)

-- seats of a fresh board, each at its place
abbrev pub AreFreshSeats : Given → List (SeatValue RunMeaning) → Type 0
AreFreshSeats g seats = (length seats ≤ windows_of g.of.layout + 1)
    × ((place : ℕ) (d : SeatValue RunMeaning) → place < length seats
    → IsFreshSeat g place (slice_index_or seats place d))
