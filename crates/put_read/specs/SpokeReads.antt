-- What a reader of one spoke's replies keeps, and what its answers promise.

use Rattle.std.specs.Prelude.{◌≡◌, ℕ, ◌+◌, ◌<◌, ◌≤◌, length}
use Rattle.sp_model.specs.declared.run.Run.{Run}
use Rattle.log_words.specs.Replies.{reply_of}
use Rattle.window_words.specs.Views.{accept}
use Rattle.window_words.specs.declared.views.View.{View}
use Rattle.stamped_read.specs.Promises.{ReadsFor}
use Rattle.stamped_read.specs.Readers.{IsReader}
use Rattle.stamped_read.specs.declared.read.Again.{Again}
use Rattle.stamped_read.specs.declared.read.Again.TheVariants.{Odd, Old, Torn, Mixed}
use Rattle.stamped_read.specs.declared.read.Read.{Read}
use Rattle.stamped_read.specs.declared.read.Read.TheVariants as read
use Rattle.put_codec.specs.Entries.{entry_of}
use Rattle.put_codec.specs.Layouts.{layout_in, width_of, windows_of}
use Rattle.put_read.specs.declared.spokes.ReplyRead.{ReplyRead}
use Rattle.put_read.specs.declared.spokes.ReplyRead.TheVariants as told
use Rattle.put_read.specs.declared.spokes.SpokeReader.{SpokeReader}

-- a window is a spoke's: it stands behind those of all ranks
pub record IsSpokeWindow (run : Run) (w : ℕ) : Type 0 where
  pub behind : run.options.ranks ≤ w
  pub there : w < windows_of (layout_in run)

-- the reader reads a spoke's replies in a run for a seat with this view
pub record ReadsSpoke (run : Run) (v : View) (r : SpokeReader) : Type 0 where
  pub spoke : IsSpokeWindow run r.reader.window
  pub one : length r.reader.parts ≡ 1
  pub reads : ReadsFor (entry_of run) (width_of (layout_in run)) (windows_of (layout_in run))
      v r.reader
  pub facts : IsReader r.reader

-- what a step tells but for the value of the reply
abbrev pub read_of : ReplyRead → Read
read_of told.Going = read.Going
read_of (told.Reading k value) = read.Reading k
read_of (told.Again again) = read.Again again

-- why a reading of a single window begins anew: there is no later window that could differ
abbrev pub IsOfOne : Again → Type 0
IsOfOne (Odd rank n) = rank ≡ 0
IsOfOne (Old n last) = Unit {0}
IsOfOne (Torn rank first n) = rank ≡ 0
IsOfOne (Mixed rank first n) = ⊥

-- a reading that is answered is the reply to put k of the spoke whose window is read, newer than
-- the last; no other answer changes which one is the last
abbrev pub TellsReply : Run → SpokeReader → SpokeReader → ReplyRead → Type 0
TellsReply run r r' told.Going = r'.reader.last ≡ r.reader.last
TellsReply run r r' (told.Reading k value) =
    (r.reader.last < k) × (k ≤ run.options.iterations + 1) × (r'.reader.last ≡ k)
    × ((i : ℕ) → r.reader.window ≡ run.options.ranks + i → value ≡ reply_of run i k)
TellsReply run r r' (told.Again again) = (r'.reader.last ≡ r.reader.last) × IsOfOne again

-- the seat accepts the entry of a reading that is answered, and nothing at any other step
abbrev pub AcceptsReply : ℕ → ℕ → View → View → ReplyRead → Type 0
AcceptsReply leaders w v v' told.Going = v'.accepted ≡ v.accepted
AcceptsReply leaders w v v' (told.Reading k value) =
    v'.accepted ≡ accept leaders w k v.accepted
AcceptsReply leaders w v v' (told.Again again) = v'.accepted ≡ v.accepted
