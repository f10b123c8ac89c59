-- Where a table's windows lie, and the seats of a fresh board.
use Rattle.std.specs.Prelude.{◌≡◌, ◌<◌, ℕ, ◌^◌, List, [], map, Option, Some}
use Rattle.window_places.specs.Places.{ArePlaces}
use Rattle.atomic_table.specs.Seated.{TableId}
use Rattle.atomic_table.specs.declared.shared.Seat.{Seat}
use Rattle.window_words.specs.Seating.{dealing_view, fresh_views}
use Rattle.window_words.specs.Steps.{known}
use Rattle.window_words.specs.declared.views.View.{View}
use Rattle.window_words.specs.declared.views.Known.{Known}

-- where the windows begin, and how many words there are: so few that each has a number
abbrev pub AreStarts : (ℕ → ℕ) → ℕ → List ℕ → ℕ → Type 0
AreStarts wide count starts words = ArePlaces wide count starts words × (words < 2 ^ 64)

-- the one seat of a table that was just made: the hub's, with no window handed out
abbrev pub first_seat : {M : Type 0} → ℕ → M → Known M
first_seat count of = known of (dealing_view count 0)

-- a seat is the first of this table
abbrev pub IsFirst : {M : Type 0} → TableId → M → ℕ → Seat ℕ (Known M) → Type 0
IsFirst table of count s = (s.table_id ≡ table) × (s.me ≡ (first_seat count of, []))

-- a seat as its caller sees it: which table it is of, the meaning, what it knows
abbrev pub SeatValue : Type 0 → Type 0
SeatValue M = TableId × M × View

abbrev pub seated : {M : Type 0} → TableId → M → View → SeatValue M
seated table of v = (table, of, v)

-- the hub's seat, and behind it one for each window
abbrev pub all_seats : {M : Type 0} → TableId → M → ℕ → List (SeatValue M)
all_seats table of count = map (seated table of) (fresh_views count)

-- what a board keeps: where its windows lie, and the first seat of the table until it gives out its
-- seats
pub record Stands {M : Type 0} (wide : M → ℕ → ℕ) (count : M → ℕ) (table : TableId) (key of : M)
    (starts : List ℕ) (hub : Option (Seat ℕ (Known M))) : Type 0 where
  pub same_key : key ≡ of
  pub laid : AreStarts (wide of) (count of) starts table.words
  pub first : (s : Seat ℕ (Known M)) → hub ≡ Some s
      → IsFirst table of (count of) s
