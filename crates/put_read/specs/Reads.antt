-- What a reader of puts keeps, and what its answers promise.

use Rattle.std.specs.Prelude.{◌≡◌, ℕ, ◌<◌, ◌≤◌, ◌+◌, ◌*◌, ◌/◌, ◌^◌, List, [], length, map, slice_index_or, Some}
use Rattle.std.specs.List.{range_with_len}
use Rattle.run_calls.specs.declared.put.Put.{Put}
use Rattle.sp_model.specs.declared.run.Run.{Run}
use Rattle.put_words.specs.Puts.{Made, put_of}
use Rattle.window_words.specs.Conditions.{AreEntriesWide}
use Rattle.window_words.specs.Views.{last_of}
use Rattle.window_words.specs.declared.views.View.{View}
use Rattle.stamped_read.specs.Promises.{ReadsFor}
use Rattle.stamped_read.specs.Readers.{IsReader, Reader, fresh_part, fresh_reader, words_of}
use Rattle.stamped_read.specs.declared.read.Read.{Read}
use Rattle.stamped_read.specs.declared.read.Read.TheVariants as read
use Rattle.put_codec.specs.Entries.{FitsLayout, entry_of, part_words}
use Rattle.put_codec.specs.Layouts.{cells_of, layout_in, width_of, windows_of}
use Rattle.put_codec.specs.declared.layout.Layout.{Layout}
use Rattle.put_read.specs.declared.reader.PutReader.{PutReader}

-- a reader of the ranks' windows of a layout that has read nothing
abbrev pub fresh_in : Layout → Reader
fresh_in layout =
    fresh_reader 0 (map (fresh_part (width_of layout)) (range_with_len 0 layout.ranks))

-- no window has an entry
abbrev pub no_entry : ℕ → ℕ → List ℕ
no_entry w k = []

-- the ranks' windows of a layout, with no entry: their words can be counted
pub record AreRanks (layout : Layout) : Type 0 where
  pub some : 1 ≤ layout.ranks
  pub narrow : (i : ℕ) → i < layout.ranks → 3 * cells_of layout i < 2 ^ 64
  pub wide : AreEntriesWide no_entry (width_of layout) layout.ranks 0
  pub few : 0 < 2 ^ 62
  pub led : layout.ranks ≤ layout.ranks

-- of each rank a seat has accepted the last put that was read whole, and the one that is read where
-- that rank's part was read, or a later one
pub record Accepts (leaders : ℕ) (accepted : List (List ℕ)) (s : Reader) : Type 0 where
  pub wide : leaders ≤ length accepted
  pub followed : (i : ℕ) → i < leaders → s.last ≤ last_of (slice_index_or accepted i [])
  pub parts : (i : ℕ) → i < s.rank → s.first / 2 ≤ last_of (slice_index_or accepted i [])

-- the reader reads the puts of a run for a seat with this view: it reads all ranks' windows, its
-- put has room for the run's cells, and the seat has accepted what it read
pub record ReadsPuts (run : Run) (v : View) (r : PutReader) : Type 0 where
  pub layout_is : r.layout ≡ layout_in run
  pub begins : r.reader.window ≡ 0
  pub many : length r.reader.parts ≡ run.options.ranks
  pub room : FitsLayout r.layout r.put
  pub reads : ReadsFor (entry_of run) (width_of (layout_in run)) (windows_of (layout_in run))
      v r.reader
  pub facts : IsReader r.reader
  pub accepts : Accepts run.options.ranks v.accepted r.reader

-- the put that was read stays, and which one is the last
pub record KeepsPut (r r' : PutReader) : Type 0 where
  pub put : r'.put ≡ r.put
  pub last : r'.reader.last ≡ r.reader.last

-- put k of a run
pub record IsPutAt (run : Run) (k : ℕ) (put : Put) : Type 0 where
  pub number : put.number ≡ k
  pub made : Made
  pub made_is : put_of run k ≡ Some made
  pub put_is : put ≡ made.put

-- a reading that is answered is put k of the run, newer than the last; no other answer changes the
-- put that was read last
abbrev pub TellsPut : Run → PutReader → PutReader → Read → Type 0
TellsPut run r r' read.Going = KeepsPut r r'
TellsPut run r r' (read.Reading k) =
    (r.reader.last < k) × (k ≤ run.options.iterations + 1) × (r'.reader.last ≡ k)
    × IsPutAt run k r'.put
TellsPut run r r' (read.Again again) = KeepsPut r r'

-- a reader has the parts of a put
abbrev pub HasParts : Layout → Reader → Put → Type 0
HasParts layout s put = (i : ℕ) → i < layout.ranks → words_of s i ≡ part_words layout i put

-- no part is longer than its window
abbrev pub AreShort : Layout → Reader → Type 0
AreShort layout s = (i : ℕ) → i < layout.ranks → length (words_of s i) ≤ width_of layout i
