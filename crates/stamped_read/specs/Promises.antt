-- What ties a reader to the seat that it reads through, and what its answers promise.
use Rattle.std.specs.Prelude.{◌≡◌, ℕ, ◌+◌, ◌/◌, ◌<◌, ◌≤◌, true, List, length, Some}
use Rattle.wide_num.specs.RoomContents.{room_of}
use Rattle.window_words.specs.Views.{after}
use Rattle.window_words.specs.declared.views.View.{View}
use Rattle.window_words.specs.declared.views.Call.{Call}
use Rattle.stamped_read.specs.declared.read.Read.{Read}
use Rattle.stamped_read.specs.declared.read.Read.TheVariants as read
use Rattle.stamped_read.specs.Readers.{Reader, part, words_of, window_of, next, read_told}

-- The reader's windows are there and have its widths. Where it has begun a reading, the seat's
-- reading is that one. The parts that it read in the present reading are those of the entry that it
-- reads.
pub record ReadsFor (entry : ℕ → ℕ → List ℕ) (wide : ℕ → ℕ) (count : ℕ) (v : View)
    (s : Reader) : Type 0 where
  pub laid : (i : ℕ) → i < length s.parts
      → (s.window + i < count) × (room_of (part s i) ≡ wide (s.window + i))
  pub reading : s.begun ≡ true
      → v.reading ≡ Some record { window = window_of s; first = s.first; words = words_of s s.rank }
  pub parts : (i : ℕ) → i < s.rank → words_of s i ≡ entry (s.window + i) (s.first / 2)

-- a step is one call with the answer n: what it leaves of the board, what the seat knows, what the
-- reader tells, and where the reader stands
pub record Makes {X : Type 0} (leaves : X → Call → ℕ → X → Type 0) (view : X → View) (leaders : ℕ)
    (b b' : X) (s s' : Reader) (answer : Read) (call : Call) (n : ℕ) : Type 0 where
  pub leaves_it : leaves b call n b'
  pub knows : view b' ≡ after leaders call n (view b)
  pub tells : answer ≡ read_told call s n
  pub stands : s' ≡ next call s n

-- a reading that is answered is one entry of all the reader's windows, newer than the last; no
-- other answer changes which one is the last
abbrev pub TellsWhole : (ℕ → ℕ → List ℕ) → ℕ → Reader → Reader → Read → Type 0
TellsWhole entry most s s' read.Going = s'.last ≡ s.last
TellsWhole entry most s s' (read.Reading k) = (s.last < k) × (k ≤ most) × (s'.last ≡ k)
    × ((i : ℕ) → i < length s.parts → words_of s' i ≡ entry (s.window + i) k)
TellsWhole entry most s s' (read.Again again) = s'.last ≡ s.last

-- the windows stay the same
abbrev pub IsSameGroup : Reader → Reader → Type 0
IsSameGroup s s' = (s'.window ≡ s.window) × (length s'.parts ≡ length s.parts)

-- a reader of window w, which is that of any board with this window of three words
abbrev pub ReadsReplies : ℕ → Reader → Type 0
ReadsReplies w s = (entry : ℕ → ℕ → List ℕ) (wide : ℕ → ℕ) (count : ℕ) (v : View) → w < count
    → wide w ≡ 3 → ReadsFor entry wide count v s
