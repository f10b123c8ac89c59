-- A rank that writes the present put into its window: what holds between steps, and the call that
-- is due.

use Rattle.std.specs.Prelude.{◌≡◌, ℕ, ◌+◌, ◌<◌, ◌≤◌, nat_lt, List, slice_index, Option, Some, None, if◌then◌else◌}
use Rattle.put_codec.specs.Entries.{part_words}
use Rattle.put_codec.specs.Layouts.{width_of}
use Rattle.put_codec.specs.declared.layout.Layout.{Layout}
use Rattle.put_codec.specs.declared.run_meaning.RunMeaning.{RunMeaning}
use Rattle.put_words.specs.Puts.{Made, put_of}
use Rattle.run_calls.specs.declared.put.Put.{Put}
use Rattle.window_words.specs.Views.{OwnsOne, after, last_of, pending}
use Rattle.window_words.specs.declared.views.Call.{Call}
use Rattle.window_words.specs.declared.views.Call.TheVariants as call
use Rattle.window_words.specs.declared.views.Pending.{Pending}
use Rattle.window_words.specs.declared.views.View.{View}
use Rattle.rank_writer.specs.declared.writer.RankWriter.{RankWriter}
use Rattle.rank_writer.specs.declared.writer.Writing.{Writing}
use Rattle.rank_writer.specs.declared.writer.Writing.TheVariants.{Open, Shut}

-- a put of the run that it may make
pub record IsPresent (of : RunMeaning) (put : Put) : Type 0 where
  pub made : Made
  pub made_is : put_of of.run.value put.number ≡ Some made
  pub put_is : put ≡ made.put
  pub number : put.number ≤ of.most

-- the entry that the seat has open
abbrev pub pending_in : Writing → ℕ → Option Pending
pending_in Shut k = None
pending_in (Open n) k = Some (pending k n)

-- no more words are put than the part has
abbrev pub IsWithin : ℕ → Writing → Type 0
IsWithin width Shut = Unit {0}
IsWithin width (Open n) = n ≤ width

-- a seat with this view stands for the rank while put k is the present one: it owns the rank's
-- window alone, where the last put that it closed is the rank's, and has open what the rank writes
pub record StandsFor (layout : Layout) (v : View) (w : RankWriter) (k : ℕ) : Type 0 where
  pub there : w.rank < layout.ranks
  pub width : w.width ≡ width_of layout w.rank
  pub within : IsWithin w.width w.writing
  pub closed : List ℕ
  pub owns : OwnsOne v w.rank closed
  pub last : last_of closed ≡ w.last
  pub writes : v.pending ≡ pending_in w.writing k

-- the call that is due
abbrev pub due_open : Layout → RankWriter → Put → ℕ → Call
due_open layout w put n = if nat_lt n w.width
    then call.Put (slice_index (part_words layout w.rank put) n) else call.Close

abbrev pub due_by : Layout → RankWriter → Put → Writing → Call
due_by layout w put Shut = call.Open put.number
due_by layout w put (Open n) = due_open layout w put n

abbrev pub due_in : Layout → RankWriter → Put → Call
due_in layout w put = due_by layout w put w.writing

-- where the rank stands behind it
abbrev pub written_by : RankWriter → ℕ → Writing → RankWriter
written_by w k Shut = record w { writing = Open 0 }
written_by w k (Open n) = if nat_lt n w.width then record w { writing = Open (n + 1) }
    else record w { last = k; writing = Shut }

abbrev pub written : RankWriter → ℕ → RankWriter
written w k = written_by w k w.writing

-- a call was made with this answer: what it leaves of the board, and what the seat knows
pub record Calls {X : Type 0} (leaves : X → Call → ℕ → X → Type 0) (view : X → View)
    (leaders : ℕ) (b b' : X) (made : Call) (n : ℕ) : Type 0 where
  pub leaves_it : leaves b made n b'
  pub knows : view b' ≡ after leaders made n (view b)

-- a rank that has written nothing
pub record IsFresh (layout : Layout) (rank : ℕ) (w : RankWriter) : Type 0 where
  pub rank_is : w.rank ≡ rank
  pub width : w.width ≡ width_of layout rank
  pub last : w.last ≡ 0
  pub writing : w.writing ≡ Shut
