-- Where the seats of a run's board stand, and what a rank has written of a put.

use Rattle.std.specs.Prelude.{◌≡◌, ◌≢◌, ℕ, ◌+◌, ◌<◌, ◌≤◌, List, Some, None, slice_index_or}
use Rattle.window_words.specs.Views.{OwnsOne, last_of, pending}
use Rattle.window_words.specs.declared.views.View.{View}
use Rattle.plain_board.specs.Plain.{PlainValue, no_view}
use Rattle.sp_model.specs.declared.run.Run.{Run}
use Rattle.put_codec.specs.declared.run_meaning.RunMeaning.{RunMeaning}

-- what a seat knows
abbrev pub viewed : PlainValue RunMeaning → ℕ → View
viewed b seat = slice_index_or b.2 seat no_view

-- a board of a run
abbrev pub IsBoard : Run → PlainValue RunMeaning → Type 0
IsBoard run b = b.0.run.value ≡ run

-- only one seat's view is changed
pub record StaysBut (seat : ℕ) (b b' : PlainValue RunMeaning) : Type 0 where
  pub meaning : b'.0 ≡ b.0
  pub others : (j : ℕ) → j ≢ seat → viewed b' j ≡ viewed b j

-- the owner of window w closed only entries before entry k, and has nothing open
abbrev pub IsFree : ℕ → ℕ → View → Type 0
IsFree w k v = (closed : List ℕ) × OwnsOne v w closed × (last_of closed < k) × (v.pending ≡ None)

-- it has put so many words of entry k
abbrev pub IsPutting : ℕ → ℕ → ℕ → View → Type 0
IsPutting w k c v = (closed : List ℕ) × OwnsOne v w closed × (v.pending ≡ Some (pending k c))

-- it has made so many steps of entry k: one opens it, one puts each word, one closes it
pub record WritesAt (width w k step : ℕ) (v : View) : Type 0 where
  pub before : step ≡ 0 → IsFree w k v
  pub between : (c : ℕ) → step ≡ c + 1 → c ≤ width → IsPutting w k c v
  pub behind : step ≡ width + 2 → IsFree w (k + 1) v
