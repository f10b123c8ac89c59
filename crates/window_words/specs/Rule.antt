-- The fact about all words and all views that every step on a word keeps.
use Rattle.std.specs.Prelude.{◌≡◌, ℕ, zero, suc, ◌+◌, ◌*◌, ◌/◌, ◌<◌, ◌≤◌, true, List, [], length, slice_index, slice_index_or, All, Option, Some, None}
use mathlib.Core.Option.{some}
use lib.ListN.{get_elem?}
use Rattle.atomic_table.specs.Table.{State}
use Rattle.window_words.specs.Views.{stamp_of}
use Rattle.window_words.specs.Conditions.{HasClosed}
use Rattle.window_words.specs.declared.views.View.{View}
use Rattle.window_words.specs.declared.views.Known.{Known}
use Rattle.window_words.specs.declared.views.Owned.{Owned}
use Rattle.window_words.specs.declared.views.Pending.{Pending}
use Rattle.window_words.specs.declared.views.Reading.{Reading}

-- the place of a window, its stamp first: the stop word lies in front of all windows
abbrev pub start : (ℕ → ℕ) → ℕ → ℕ
start wide zero = 1
start wide (suc w) = start wide w + wide w + 1

-- a window's stamp
abbrev pub stamp : (ℕ → ℕ) → List ℕ → ℕ → ℕ
stamp wide words w = slice_index words (start wide w)

-- a window's word i
abbrev pub word : (ℕ → ℕ) → List ℕ → ℕ → ℕ → ℕ
word wide words w i = slice_index words (start wide w + 1 + i)

-- the words put so far of the open entry stand in the window
abbrev pub PartStands : (ℕ → ℕ → List ℕ) → (ℕ → ℕ) → List ℕ → ℕ → Option Pending → Type 0
PartStands entry wide words w None = Unit {0}
PartStands entry wide words w (Some p) = (1 ≤ p.entry) × (p.put ≤ wide w)
    × ((i : ℕ) → i < p.put → word wide words w i ≡ slice_index (entry w p.entry) i)

-- what a seat has read, where the stamp of w is `now w`: while the stamp is the even one that the
-- reading began at, the words are those of its entry
abbrev pub HasRead : (ℕ → ℕ → List ℕ) → (ℕ → ℕ) → ℕ → (ℕ → ℕ) → Option Reading → Type 0
HasRead entry wide count now None = Unit {0}
HasRead entry wide count now (Some r) =
    (r.window < count) × (r.first ≤ now r.window) × (length r.words ≤ wide r.window)
    × ((k : ℕ) → 1 ≤ k → r.first ≡ 2 * k → r.first ≡ now r.window → (i : ℕ) → i < length r.words
    → slice_index r.words i ≡ slice_index (entry r.window k) i)

-- what holds of a window that a seat owns
pub record Account (entry : ℕ → ℕ → List ℕ) (wide : ℕ → ℕ) (dealt : ℕ) (words : List ℕ)
    (owner : ℕ → ℕ) (seat : ℕ) (p : Option Pending) (a : Owned) : Type 0 where
  pub below : a.window < dealt
  pub owned : owner a.window ≡ seat
  pub stamped : slice_index words (start wide a.window) ≡ stamp_of p a.closed
  pub part : PartStands entry wide words a.window p

-- what holds of a seat's view
pub record Knows (entry : ℕ → ℕ → List ℕ) (wide : ℕ → ℕ) (count : ℕ) (words : List ℕ)
    (hub dealt : ℕ) (owner : ℕ → ℕ) (seat : ℕ) (v : View) : Type 0 where
  pub hubs : v.hub ≡ true → (seat ≡ hub) × (v.dealt ≡ dealt) × (v.stopped ≡ slice_index words 0)
  pub owns : All (Account entry wide dealt words owner seat v.pending) v.owned
  pub reads : HasRead entry wide count (stamp wide words) v.reading
  pub accepted : (w : ℕ) → All (λ k. 2 * k ≤ stamp wide words w) (slice_index_or v.accepted w [])
  pub from_one : (w : ℕ) → All (λ k. 1 ≤ k) (slice_index_or v.accepted w [])

-- no other window is ahead of a leader's: an entry is opened there only after every leader closed
-- one that isn't older
abbrev pub AreFollowing : ℕ → ℕ → (ℕ → ℕ) → Type 0
AreFollowing leaders count now =
    (w u : ℕ) → leaders ≤ w → w < count → u < leaders → (now w + 1) / 2 ≤ now u / 2

-- The rule. No two seats own one window and no two are the hub's; windows that aren't handed out
-- have stamp 0; an even stamp above 0 says that its entry stands whole; what a seat accepted of a
-- window, the window's owner has closed.
pub record Windows {M : Type 0} (entry : ℕ → ℕ → List ℕ) (wide : ℕ → ℕ) (count lead most : ℕ)
    (of : M) (s : State ℕ (Known M)) : Type 0 where
  pub hub : ℕ
  pub dealt : ℕ
  pub owner : ℕ → ℕ
  pub long : length s.words ≡ start wide count
  pub in_range : dealt ≤ count
  pub new : (w : ℕ) → dealt ≤ w → w < count → stamp wide s.words w ≡ 0
  pub top : (w : ℕ) → w < count → stamp wide s.words w ≤ 2 * most
  pub whole : (w k : ℕ) → w < count → 1 ≤ k → stamp wide s.words w ≡ 2 * k → (i : ℕ) → i < wide w
      → word wide s.words w i ≡ slice_index (entry w k) i
  pub same : (j : ℕ) (v : Known M) (m : M) → get_elem? s.views j ≡ some v → v.of ≡ Some m → m ≡ of
  pub each : (j : ℕ) (v : Known M) → get_elem? s.views j ≡ some v
      → Knows entry wide count s.words hub dealt owner j v.view
  pub following : AreFollowing lead count (stamp wide s.words)
  pub listed : (i j : ℕ) (v u : Known M) → get_elem? s.views i ≡ some v
      → get_elem? s.views j ≡ some u → All (HasClosed v.view) u.view.owned
