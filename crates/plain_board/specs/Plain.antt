-- The whole of a plain board: what it keeps, and the board after each call.
use Rattle.std.specs.Prelude.{◌≡◌, ◌<◌, ◌≤◌, ℕ, ◌+◌, ◌-◌, ◌*◌, ◌^◌, List, [], map, length, slice_index, slice_index_or, slice_set, replicate, All, Some}
use Rattle.atomic_table.specs.Table.{State}
use Rattle.window_words.specs.Views.{after, entry_of, last_of}
use Rattle.window_words.specs.Rule.{start, stamp, word, Windows}
use Rattle.window_words.specs.Steps.{known}
pub use Rattle.window_words.specs.Seating.{no_view, hub_view, owner_view, fresh_views, TellsOwn}
use Rattle.window_words.specs.declared.views.View.{View}
use Rattle.window_words.specs.declared.views.Known.{Known}
use Rattle.window_words.specs.declared.views.Pending.{Pending}
use Rattle.window_words.specs.declared.views.Call.{Call}
use Rattle.window_words.specs.declared.views.Call.TheVariants.{Open, Put, Close, Begin, Read, End, Stop, Stopped}
use Rattle.plain_board.specs.declared.seat.PlainSeat.{PlainSeat}
use Rattle.plain_board.specs.Fresh.{IsWidest}
use Rattle.plain_board.specs.Seats.{shown, own_window, put_count, read_count, IsRoomy}

-- the words and views as a table has them
abbrev pub state : {M : Type 0} → M → List ℕ → List View → State ℕ (Known M)
state of words views = record { words = words; homes = []; views = map (known of) views }

-- the words after a call of a seat
abbrev pub words_after : (ℕ → ℕ) → Call → View → List ℕ → List ℕ
words_after wide (Open k) v words = slice_set words (start wide (own_window v)) (2 * k - 1)
words_after wide (Put n) v words =
    slice_set words (start wide (own_window v) + 1 + put_count v.pending) n
words_after wide Close v words =
    slice_set words (start wide (own_window v)) (2 * entry_of v.pending)
words_after wide (Begin w) v words = words
words_after wide (Read w) v words = words
words_after wide (End w) v words = words
words_after wide (Stop last) v words = slice_set words 0 last
words_after wide Stopped v words = words

-- what a call answers, and 0 where it answers nothing
abbrev pub answer_of : (ℕ → ℕ) → Call → View → List ℕ → ℕ
answer_of wide (Open k) v words = 0
answer_of wide (Put n) v words = 0
answer_of wide Close v words = 0
answer_of wide (Begin w) v words = stamp wide words w
answer_of wide (Read w) v words = word wide words w (read_count v.reading)
answer_of wide (End w) v words = stamp wide words w
answer_of wide (Stop last) v words = 0
answer_of wide Stopped v words = slice_index words 0

-- a board as callers see it: the meaning, the words, the views of all seats, the number of the
-- selected seat
abbrev pub PlainValue : Type 0 → Type 0
PlainValue M = M × List ℕ × List View × ℕ

abbrev pub selected : {M : Type 0} → PlainValue M → View
selected b = slice_index_or b.2 b.3 no_view

-- the whole board after a call with the answer n, and what the answer tells
abbrev pub LeavesAll : {M : Type 0} → (M → ℕ) → (M → ℕ → ℕ) → PlainValue M → Call → ℕ → PlainValue M
    → Type 0
LeavesAll lead wide b call n b' =
    (n ≡ answer_of (wide b.0) call (selected b) b.1)
    × (b' ≡ (
      b.0,
      words_after (wide b.0) call (selected b) b.1,
      slice_set b.2 b.3 (after (lead b.0) call n (selected b)),
      b.3,
    ))
    × TellsOwn (lead b.0) call n (selected b)

-- entries ascend from 1, so there are never more of them than the number of the last: of those that
-- the seat closed, with an open one above, and of those that it accepted of each window that isn't
-- a leader's
pub record IsFew (leaders : ℕ) (v : View) : Type 0 where
  pub closed : All (λ a. length a.closed ≤ last_of a.closed) v.owned
  pub above : (p : Pending) → v.pending ≡ Some p → All (λ a. last_of a.closed < p.entry) v.owned
  pub accepted : (w : ℕ) → leaders ≤ w
      → length (slice_index_or v.accepted w []) ≤ last_of (slice_index_or v.accepted w [])

-- what a plain board keeps: the rule of the windows, where they begin, one seat more than windows,
-- and room
pub record PlainRule {M : Type 0} (entry : M → ℕ → ℕ → List ℕ) (wide : M → ℕ → ℕ)
    (count lead last : M → ℕ) (of : M) (words starts : List ℕ) (seats : List PlainSeat)
    (at : ℕ) : Type 0 where
  pub rule : Windows (entry of) (wide of) (count of) (lead of) (last of)
      of (state of words (map shown seats))
  pub short : (p : ℕ) → slice_index words p < 2 ^ 64
  pub many : length starts ≡ count of
  pub begin : (w : ℕ) → w < count of → slice_index starts w ≡ start (wide of) w
  pub at_seat : at < length seats
  pub all_seats : length seats ≡ count of + 1
  pub few : All (λ s. IsFew (lead of) (shown s)) seats
  pub widest : ℕ
  pub wide_most : IsWidest (wide of) (count of) widest
  pub rooms : All (IsRoomy (lead of) (count of) widest (last of)) seats

-- a fresh board: all words are 0, and the hub's seat is selected
abbrev pub fresh_board : {M : Type 0} → (M → ℕ → ℕ) → (M → ℕ) → M → PlainValue M
fresh_board wide count of =
    (of, replicate (start (wide of) (count of)) 0, fresh_views (count of), 0)
