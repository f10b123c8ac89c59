-- What a plain seat shows of what it knows, and the room that it keeps for more.
use Rattle.std.specs.Prelude.{◌≡◌, ◌<◌, ◌≤◌, ℕ, ◌/◌, true, false, nat_eq, nat_lt, if◌then◌else◌, List, [], ◌∷◌, map, length, slice_index_or, Option, Some, None}
use Rattle.std.specs.List.{list_any, range_with_len}
use Rattle.wide_num.specs.RoomContents.{Contents, room_of}
use Rattle.window_words.specs.Views.{one, is_whole}
use Rattle.window_words.specs.declared.views.View.{View}
use Rattle.window_words.specs.declared.views.Owned.{Owned}
use Rattle.window_words.specs.declared.views.Pending.{Pending}
use Rattle.window_words.specs.declared.views.Reading.{Reading}
use Rattle.plain_board.specs.declared.seat.Begun.{Begun}
use Rattle.plain_board.specs.declared.seat.PlainSeat.{PlainSeat}
use Rattle.plain_board.specs.Tracks.{items_of, empty}

-- a seat's window with its closed entries, where it owns one
abbrev pub owned_of : Option ℕ → List ℕ → List Owned
owned_of None closed = []
owned_of (Some w) closed = one w closed

-- a reading that was begun, with the words read
abbrev pub reading_of : Option Begun → List ℕ → Option Reading
reading_of None words = None
reading_of (Some b) words = Some record { window = b.window; first = b.first; words = words }

-- what the seat knows
abbrev pub shown : PlainSeat → View
shown s = record {
  hub = s.hub;
  dealt = s.dealt;
  owned = owned_of s.window s.closed.items;
  pending = s.pending;
  reading = reading_of s.reading s.words.items;
  accepted = map items_of s.accepted.items;
  stopped = s.stopped;
}

abbrev pub first_window : List Owned → ℕ
first_window [] = 0
first_window (a ∷ others) = a.window

-- the window that a seat owns, or 0
abbrev pub own_window : View → ℕ
own_window v = first_window v.owned

-- how many words of the open entry are put, or 0
abbrev pub put_count : Option Pending → ℕ
put_count None = 0
put_count (Some p) = p.put

-- how many words are read, or 0
abbrev pub read_count : Option Reading → ℕ
read_count None = 0
read_count (Some r) = length r.words

-- no room is lost or won
pub record KeepsRoom (s s' : PlainSeat) : Type 0 where
  pub window : s'.window ≡ s.window
  pub closed : room_of s'.closed ≡ room_of s.closed
  pub words : room_of s'.words ≡ room_of s.words
  pub accepted : map room_of s'.accepted.items ≡ map room_of s.accepted.items

-- how many accepted entries of window w a seat may have: the latest of a leader's, all of another's
abbrev pub room_for : ℕ → ℕ → ℕ → ℕ
room_for leaders most w = if nat_lt w leaders then 1 else most

-- the room of one seat: for the closed entries of its window, for the words of a reading, and for
-- the accepted entries of each window
pub record IsRoomy (leaders count widest most : ℕ) (s : PlainSeat) : Type 0 where
  pub closed : (w : ℕ) → s.window ≡ Some w → room_of s.closed ≡ most
  pub words : room_of s.words ≡ widest
  pub accepted : map room_of s.accepted.items ≡ map (room_for leaders most) (range_with_len 0 count)

-- there is room to accept entry k of window w
abbrev pub HasRoomFor : ℕ → ℕ → ℕ → List (Contents ℕ) → Type 0
HasRoomFor leaders w k tracks =
    (w < length tracks) × (w < leaders → 0 < room_of (slice_index_or tracks w empty))
    × (leaders ≤ w → list_any (λ j. nat_eq j k) (slice_index_or tracks w empty).items ≡ false
    → 0 < (slice_index_or tracks w empty).spare)

-- the same of the window that is being read, where the reading ends whole at the stamp n
abbrev pub HasRoomToEnd : ℕ → ℕ → PlainSeat → Type 0
HasRoomToEnd leaders n s = (b : Begun) → s.reading ≡ Some b → is_whole b.first n ≡ true
    → HasRoomFor leaders b.window (n / 2) s.accepted.items
