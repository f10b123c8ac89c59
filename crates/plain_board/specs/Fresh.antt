-- What a board is made of: seats that know nothing yet, with room for the widest window.
use Rattle.std.specs.Prelude.{◌<◌, ◌≤◌, ℕ, false, [], replicate, None}
use Rattle.wide_num.specs.RoomContents.{Contents, with_room}
use Rattle.window_words.specs.declared.views.View.{View}
use Rattle.plain_board.specs.Seats.{room_for}

-- no window is wider
abbrev pub IsEnough : (ℕ → ℕ) → ℕ → ℕ → Type 0
IsEnough wide count n = (w : ℕ) → w < count → wide w ≤ n

-- the greatest width: no window is wider, and nothing less is enough
abbrev pub IsWidest : (ℕ → ℕ) → ℕ → ℕ → Type 0
IsWidest wide count widest =
    IsEnough wide count widest × ((n : ℕ) → IsEnough wide count n → widest ≤ n)

-- no accepted entries of window w, with room for those that there may be
abbrev pub fresh_track : ℕ → ℕ → ℕ → Contents ℕ
fresh_track leaders most w = with_room (room_for leaders most w)

-- a seat that owns no window and knows nothing
abbrev pub blank_view : ℕ → View
blank_view count = record {
  hub = false;
  dealt = 0;
  owned = [];
  pending = None;
  reading = None;
  accepted = replicate count [];
  stopped = 0;
}
