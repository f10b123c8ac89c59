-- What a table's seat keeps, and what each call leaves of it.
use Rattle.std.specs.Prelude.{◌≡◌, ◌<◌, ◌≤◌, ℕ, List, [], ◌∷◌, length, All, Option, Some, None}
use Rattle.atomic_table.specs.Table.{Me}
use Rattle.atomic_table.specs.Seated.{TableId}
use Rattle.window_words.specs.Views.{after, pending}
use Rattle.window_words.specs.Seating.{TellsOwn}
use Rattle.window_words.specs.declared.views.Known.{Known}
use Rattle.window_words.specs.declared.views.Owned.{Owned}
use Rattle.window_words.specs.declared.views.Reading.{Reading}
use Rattle.window_words.specs.declared.views.Call.{Call}
use Rattle.table_board.specs.Tables.{AreStarts, SeatValue}

-- the first window that a seat owns
abbrev pub first_owned : List Owned → Option ℕ
first_owned [] = None
first_owned (a ∷ others) = Some a.window

-- what a seat keeps: it is of this table, it knows the meaning, it holds no slot, and the numbers
-- that its calls need are those of its view
pub record Sits {M : Type 0} (wide : M → ℕ → ℕ) (count last : M → ℕ) (table : TableId) (key : M)
    (id : TableId) (me : Me ℕ (Known M)) (of : M) (starts : List ℕ) (window : Option ℕ)
    (entry put read : ℕ) : Type 0 where
  pub same_table : id ≡ table
  pub same_key : key ≡ of
  pub same_of : me.0.of ≡ Some of
  pub holds_none : me.1 ≡ []
  pub laid : AreStarts (wide of) (count of) starts table.words
  pub own : window ≡ first_owned me.0.view.owned
  pub below : All (λ a. a.window < count of) me.0.view.owned
  pub writing : (k c : ℕ) → me.0.view.pending ≡ Some (pending k c)
      → (entry ≡ k) × (put ≡ c) × (k ≤ last of)
  pub reading : (q : Reading) → me.0.view.reading ≡ Some q
      → (read ≡ length q.words) × (q.window < count of)

-- which table it is and the meaning stay, the view gains what the call adds, and the answer tells
-- of the seat's own windows
abbrev pub Leaves : {M : Type 0} → (M → ℕ) → SeatValue M → Call → ℕ → SeatValue M → Type 0
Leaves lead s call n s' =
    (s' ≡ (s.0, s.1, after (lead s.1) call n s.2)) × TellsOwn (lead s.1) call n s.2
