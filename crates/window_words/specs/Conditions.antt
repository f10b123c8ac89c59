-- When a call of a board may come, and what its answer tells.
use Rattle.std.specs.Prelude.{◌≡◌, ℕ, ◌*◌, ◌<◌, ◌≤◌, List, [], length, slice_index, slice_index_or, All, Some, None}
use Rattle.std.specs.List.{Contains}
use Rattle.window_words.specs.Views.{last_of, OwnsOne, stamp_of}
use Rattle.window_words.specs.declared.views.View.{View}
use Rattle.window_words.specs.declared.views.Owned.{Owned}
use Rattle.window_words.specs.declared.views.Pending.{Pending}
use Rattle.window_words.specs.declared.views.Reading.{Reading}

-- the entries from 1 to the last have the width of their window
abbrev pub AreEntriesWide : (ℕ → ℕ → List ℕ) → (ℕ → ℕ) → ℕ → ℕ → Type 0
AreEntriesWide entry wide count last =
    (w k : ℕ) → w < count → 1 ≤ k → k ≤ last → length (entry w k) ≡ wide w

-- entry k may be opened: it is above all that were closed in the seat's one window, and nothing is
-- open
abbrev pub MayOpen : ℕ → View → ℕ → Type 0
MayOpen last v k = (w : ℕ) × (closed : List ℕ) × OwnsOne v w closed × (v.pending ≡ None) × (1 ≤ k)
    × (k ≤ last) × (last_of closed < k)

-- of every leader the seat has accepted entry k or a later one
abbrev pub HasFollowed : ℕ → View → ℕ → Type 0
HasFollowed leaders v k = (r : ℕ) → r < leaders → k ≤ last_of (slice_index_or v.accepted r [])

-- a window that isn't a leader's is never ahead of the leaders
abbrev pub IsNotAhead : ℕ → View → ℕ → Type 0
IsNotAhead leaders v k =
    (w : ℕ) (closed : List ℕ) → OwnsOne v w closed → leaders ≤ w → HasFollowed leaders v k

-- this is the next word of the open entry
abbrev pub IsNextWord : {M : Type 0} → (M → ℕ → ℕ → List ℕ) → (M → ℕ → ℕ) → M → View → ℕ → Type 0
IsNextWord entry wide of v word =
    (w : ℕ) × (closed : List ℕ) × (p : Pending) × OwnsOne v w closed × (v.pending ≡ Some p)
    × (p.put < wide of w) × (word ≡ slice_index (entry of w p.entry) p.put)

-- all words of the open entry are put
abbrev pub IsAllPut : (ℕ → ℕ) → View → Type 0
IsAllPut wide v = (w : ℕ) × (closed : List ℕ) × (p : Pending) × OwnsOne v w closed
    × (v.pending ≡ Some p) × (p.put ≡ wide w)

-- the window is being read, and words are left
abbrev pub ReadsOn : (ℕ → ℕ) → View → ℕ → Type 0
ReadsOn wide v w = (r : Reading) × (v.reading ≡ Some r) × (r.window ≡ w) × (length r.words < wide w)

-- all words of the window are read
abbrev pub HasReadAll : (ℕ → ℕ) → View → ℕ → Type 0
HasReadAll wide v w =
    (r : Reading) × (v.reading ≡ Some r) × (r.window ≡ w) × (length r.words ≡ wide w)

-- a stamp is at least that of every entry that the seat accepted of its window
abbrev pub AcceptedBelow : View → ℕ → ℕ → Type 0
AcceptedBelow v w n = All (λ k. 2 * k ≤ n) (slice_index_or v.accepted w [])

-- where the seat owns the window, the stamp is the one that it left there
abbrev pub OwnStamp : View → ℕ → ℕ → Type 0
OwnStamp v w n = All (λ a. a.window ≡ w → n ≡ stamp_of v.pending a.closed) v.owned

-- where a reading began and ends at the even stamp of entry k, there is such an entry and its words
-- are those that were read
abbrev pub IsEntryWhole : {M : Type 0} → (M → ℕ → ℕ → List ℕ) → (M → ℕ) → M → View → ℕ → ℕ → Type 0
IsEntryWhole entry last of v w n =
    (r : Reading) (k : ℕ) → v.reading ≡ Some r → 1 ≤ k → r.first ≡ 2 * k → n ≡ r.first
    → (k ≤ last of) × (r.words ≡ entry of w k)

-- the owner of a window has closed each entry that a seat with this view accepted of it
abbrev pub HasClosed : View → Owned → Type 0
HasClosed v a = All (λ k. (1 ≤ k) × Contains a.closed k) (slice_index_or v.accepted a.window [])

-- of a window that the seat owns itself, it accepted only entries that it closed there
abbrev pub AcceptedOwn : View → ℕ → Type 0
AcceptedOwn v w = All (λ a. a.window ≡ w → HasClosed v a) v.owned

-- where a reading ends whole at entry k of a window that isn't a leader's, a seat that owns a
-- leader's window, with no entry open, has closed entry k or a later one there
abbrev pub IsBehindOwn : ℕ → View → ℕ → ℕ → Type 0
IsBehindOwn leaders v w n =
    (r : Reading) (k : ℕ) → v.reading ≡ Some r → r.first ≡ 2 * k → n ≡ r.first → leaders ≤ w
    → v.pending ≡ None → All (λ a. a.window < leaders → k ≤ last_of a.closed) v.owned
