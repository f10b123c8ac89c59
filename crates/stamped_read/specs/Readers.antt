-- What a reader of windows shows, the call that is due, and what its answer tells and changes.
use Rattle.std.specs.Prelude.{◌≡◌, ℕ, ◌+◌, ◌-◌, ◌/◌, ◌%◌, ◌<◌, Bool, true, false, nat_eq, nat_le, nat_lt, if◌then◌else◌, List, [], ◌∷◌, ◌++◌, length, slice_index_or, slice_set, Option, Some, None}
use Rattle.wide_num.specs.RoomContents.{Contents, with_room, room_of}
use Rattle.window_words.specs.declared.views.Call.{Call}
use Rattle.window_words.specs.declared.views.Call.TheVariants as call
use Rattle.stamped_read.specs.declared.read.Again.{Again}
use Rattle.stamped_read.specs.declared.read.Again.TheVariants.{Odd, Old, Torn, Mixed}
use Rattle.stamped_read.specs.declared.read.Read.{Read}
use Rattle.stamped_read.specs.declared.read.Read.TheVariants as read

-- the same for one window
abbrev pub fresh_part : (ℕ → ℕ) → ℕ → Contents ℕ
fresh_part wide w = with_room (wide w)

abbrev pub emptied : Contents ℕ → Contents ℕ
emptied c = with_room (room_of c)

-- one more word
abbrev pub longer_part : Contents ℕ → ℕ → Contents ℕ
longer_part c n = record { items = c.items ++ n ∷ []; spare = c.spare - 1 }

-- what a reader shows: the first of the windows that it reads one after another, the words of each,
-- which of them is read, whether its reading is begun, the stamp of this reading, and the last
-- entry that was read whole
pub record Reader : Type 0 where
  pub window : ℕ
  pub parts : List (Contents ℕ)
  pub rank : ℕ
  pub begun : Bool
  pub first : ℕ
  pub last : ℕ

abbrev pub part : Reader → ℕ → Contents ℕ
part s i = slice_index_or s.parts i (with_room 0)

abbrev pub words_of : Reader → ℕ → List ℕ
words_of s i = (part s i).items

-- the window that is read
abbrev pub window_of : Reader → ℕ
window_of s = s.window + s.rank

-- a reader that has read nothing
abbrev pub fresh_reader : ℕ → List (Contents ℕ) → Reader
fresh_reader w parts = record {
  window = w;
  parts = parts;
  rank = 0;
  begun = false;
  first = 0;
  last = 0;
}

-- a stamp is that of an entry newer than the last
pub record IsNewer (last n : ℕ) : Type 0 where
  pub even : n % 2 ≡ 0
  pub newer : last < n / 2

-- what a reader keeps: it reads one of its windows, and a reading goes on only at the stamp of a
-- newer entry
pub record IsReader (s : Reader) : Type 0 where
  pub below : s.rank < length s.parts
  pub begins_newer : s.begun ≡ true → IsNewer s.last s.first
  pub follows_newer : 0 < s.rank → IsNewer s.last s.first

-- the call that is due: the stamp, then each word, then the stamp again
abbrev pub due_begun : Bool → ℕ → Call
due_begun full w = if full then call.End w else call.Read w

abbrev pub due : Reader → Call
due s = if s.begun then due_begun (nat_eq (part s s.rank).spare 0) (window_of s)
    else call.Begin (window_of s)

-- the first window has no newer entry
abbrev pub stale : Reader → ℕ → Option Again
stale s n = if nat_le (n / 2) s.last then Some (Old n s.last) else None

-- a later window has another stamp than the first
abbrev pub mixed : Reader → ℕ → Option Again
mixed s n = if nat_eq n s.first then None else Some (Mixed s.rank s.first n)

-- why no reading begins at the stamp n
abbrev pub unfit : Reader → ℕ → Option Again
unfit s n = if nat_eq (n % 2) 1 then Some (Odd s.rank n)
    else (if nat_eq s.rank 0 then stale s n else mixed s n)

-- the next reading begins at the first window
abbrev pub restarted : Reader → Reader
restarted s = record s { rank = 0; begun = false }

-- a reading of the window begins at the stamp n
abbrev pub begins : Option Again → Reader → ℕ → Reader
begins None s n =
    record s { begun = true; first = n; parts = slice_set s.parts s.rank (emptied (part s s.rank)) }
begins (Some again) s n = restarted s

abbrev pub begins_told : Option Again → Read
begins_told None = read.Going
begins_told (Some again) = read.Again again

-- a word of it is read
abbrev pub reads : Reader → ℕ → Reader
reads s n = record s { parts = slice_set s.parts s.rank (longer_part (part s s.rank) n) }

-- its words are whole: the next window follows, or the entry is read
abbrev pub follows : Bool → Reader → Reader
follows more s = if more then record s { rank = s.rank + 1; begun = false }
    else record s { rank = 0; begun = false; last = s.first / 2 }

abbrev pub follows_told : Bool → Reader → Read
follows_told more s = if more then read.Going else read.Reading (s.first / 2)

-- windows are left
abbrev pub is_more : Reader → Bool
is_more s = nat_lt (s.rank + 1) (length s.parts)

-- the reading ends at the stamp n
abbrev pub ends : Reader → ℕ → Reader
ends s n = if nat_eq n s.first then follows (is_more s) s else restarted s

abbrev pub ends_told : Reader → ℕ → Read
ends_told s n =
    if nat_eq n s.first then follows_told (is_more s) s else read.Again (Torn s.rank s.first n)

-- the reader after the answer n of a call, and what it tells
abbrev pub next : Call → Reader → ℕ → Reader
next (call.Open k) s n = s
next (call.Put word) s n = s
next call.Close s n = s
next (call.Begin w) s n = begins (unfit s n) s n
next (call.Read w) s n = reads s n
next (call.End w) s n = ends s n
next (call.Stop k) s n = s
next call.Stopped s n = s

abbrev pub read_told : Call → Reader → ℕ → Read
read_told (call.Open k) s n = read.Going
read_told (call.Put word) s n = read.Going
read_told call.Close s n = read.Going
read_told (call.Begin w) s n = begins_told (unfit s n)
read_told (call.Read w) s n = read.Going
read_told (call.End w) s n = ends_told s n
read_told (call.Stop k) s n = read.Going
read_told call.Stopped s n = read.Going
