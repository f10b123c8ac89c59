-- Where a rank at a table's seat stands, step by step.
use Rattle.std.specs.Prelude.{◌≡◌, ◌<◌, ◌≤◌, ℕ, ◌+◌, ◌^◌, Bool, true, slice_index_or, List, length}
use Rattle.atomic_table.specs.Seated.{TableId}
use Rattle.window_words.specs.Seating.{fresh_views, no_view}
use Rattle.window_words.specs.declared.views.View.{View}
use Rattle.table_board.specs.Tables.{SeatValue}
use Rattle.stamped_read.specs.Readers.{Reader}
use Rattle.stamped_read.specs.Promises.{ReadsFor}
use Rattle.window_tests.specs.Phases.{HasPut, WritesAt, entry_of}
use Rattle.window_tests.specs.declared.tiny.Tiny.{Tiny}

-- the seat's window is a leader's, whose entries up to this one may be put
abbrev pub IsLeaderSeat : ℕ → ℕ → SeatValue Tiny → Type 0
IsLeaderSeat w k s = (w < s.1.leaders) × (k ≤ s.1.most)

-- whether a seat is the hub's, and with which number it stopped, are as before
abbrev pub StaysHub : View → View → Type 0
StaysHub v v' = (v'.hub ≡ v.hub) × (v'.stopped ≡ v.stopped)

-- the hub's seat, which hasn't stopped
abbrev pub IsRunning : View → Type 0
IsRunning v = (v.hub ≡ true) × (v.stopped ≡ 0)

-- a seat of the same table, with the same meaning, and the hub's as before
abbrev pub IsSameSeat : SeatValue Tiny → SeatValue Tiny → Type 0
IsSameSeat s s' = (s'.0 ≡ s.0) × (s'.1 ≡ s.1) × StaysHub s.2 s'.2

-- a seat that owns this window, a leader's, and has put nothing
abbrev pub IsFreshRank : ℕ → ℕ → ℕ → SeatValue Tiny → Type 0
IsFreshRank w width most s = (w < s.1.leaders) × (width ≡ s.1.width) × (width < 2 ^ 32)
    × (most ≡ s.1.most) × HasPut w 0 s.2

-- the rank has closed so many puts, and made so many steps of the next; where it `runs`, its seat is
-- the hub's too, and hasn't stopped
pub record IsRank (s : SeatValue Tiny) (w width most last step : ℕ) (runs : Bool) : Type 0 where
  pub leads : w < s.1.leaders
  pub wide : width ≡ s.1.width
  pub small : width < 2 ^ 32
  pub top : most ≡ s.1.most
  pub low : last ≤ most
  pub few : step < width + 2
  pub writes : WritesAt width w last step s.2
  pub running : runs ≡ true → IsRunning s.2

-- a reader reads for this seat
abbrev pub IsReadBy : SeatValue Tiny → Reader → Type 0
IsReadBy s r = ReadsFor (entry_of s.1) (λ w. s.1.width) s.1.windows s.2 r

-- a seat of a fresh board with this meaning, by its place among them
abbrev pub IsFreshSeat : ℕ → Tiny → SeatValue Tiny → Type 0
IsFreshSeat place t s =
    (s.1 ≡ t) × (s.2 ≡ slice_index_or (fresh_views t.windows) place no_view)

-- seats of a fresh board with this meaning, each at its place
abbrev pub AreFreshSeats : Tiny → List (SeatValue Tiny) → Type 0
AreFreshSeats t seats = (place : ℕ) (d : SeatValue Tiny) → place < length seats
    → IsFreshSeat place t (slice_index_or seats place d)

-- seats of one table
abbrev pub AreOf : TableId → List (SeatValue Tiny) → Type 0
AreOf table seats =
    (place : ℕ) (d : SeatValue Tiny) → place < length seats → (slice_index_or seats place d).0 ≡ table
