-- Where puts and a reading stand, step by step.
use Rattle.std.specs.Prelude.{◌≡◌, ◌≢◌, ◌<◌, ◌≤◌, ℕ, ◌+◌, ◌^◌, length, slice_index, slice_index_or, List, Some, None}
use Rattle.window_words.specs.Views.{last_of, OwnsOne, pending}
use Rattle.window_words.specs.declared.views.View.{View}
use Rattle.plain_board.specs.Plain.{PlainValue, no_view}
use Rattle.stamped_read.specs.Readers.{Reader}
use Rattle.stamped_read.specs.Promises.{ReadsFor}
use Rattle.window_tests.specs.Words.{words_at}
use Rattle.window_tests.specs.declared.tiny.Tiny.{Tiny}

-- what a seat knows
abbrev pub viewed : PlainValue Tiny → ℕ → View
viewed b seat = slice_index_or b.2 seat no_view

-- the owner of window w closed nothing above entry k, and has nothing open
abbrev pub HasPut : ℕ → ℕ → View → Type 0
HasPut w k v = (closed : List ℕ) × OwnsOne v w closed × (last_of closed ≤ k) × (v.pending ≡ None)

-- it has put so many words of entry k + 1
abbrev pub IsPutting : ℕ → ℕ → ℕ → View → Type 0
IsPutting w k c v = (closed : List ℕ) × OwnsOne v w closed × (v.pending ≡ Some (pending (k + 1) c))

-- it has made so many steps of the put of entry k + 1: one opens it, one puts each word, one closes
-- it
pub record WritesAt (width w k step : ℕ) (v : View) : Type 0 where
  pub before : step ≡ 0 → HasPut w k v
  pub between : (c : ℕ) → step ≡ c + 1 → c ≤ width → IsPutting w k c v
  pub behind : step ≡ width + 2 → HasPut w (k + 1) v

-- one of the leaders' windows of a board, whose entries up to this one may be put
pub record IsLeaders (w k : ℕ) (b : PlainValue Tiny) : Type 0 where
  pub leads : w < b.0.leaders
  pub below : w < b.0.windows
  pub most : k ≤ b.0.most
  pub low : w + 1 < 2 ^ 64
  pub small : k < 2 ^ 64

-- only one seat's view is changed
pub record StaysBut (seat : ℕ) (b b' : PlainValue Tiny) : Type 0 where
  pub meaning : b'.0 ≡ b.0
  pub others : (j : ℕ) → j ≢ seat → viewed b' j ≡ viewed b j

-- the words of an entry
abbrev pub entry_of : Tiny → ℕ → ℕ → List ℕ
entry_of t w k = words_at t.width w k

-- a reader reads for the hub's seat
abbrev pub IsReadAt : PlainValue Tiny → Reader → Type 0
IsReadAt b s = ReadsFor (entry_of b.0) (λ w. b.0.width) b.0.windows (viewed b 0) s

-- one or two leaders' windows of one width, and a reader of these: each writer has closed so many
-- entries up to the last, and made so many steps of the next
pub record IsBench (b : PlainValue Tiny) (s : Reader) (lasts steps : List ℕ)
    (ranks width most : ℕ) : Type 0 where
  pub leaders : b.0.leaders ≡ ranks
  pub few : ranks ≤ 2
  pub wide : width ≡ b.0.width
  pub small : width < 2 ^ 32
  pub top : most ≡ b.0.most
  pub parts : length s.parts ≡ ranks
  pub made : (w : ℕ) → w < ranks
      → (slice_index lasts w ≤ most) × (slice_index steps w < width + 2)
  pub writes : (w : ℕ) → w < ranks
      → WritesAt width w (slice_index lasts w) (slice_index steps w) (viewed b (w + 1))
  pub reads : IsReadAt b s
