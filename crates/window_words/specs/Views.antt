-- What each call adds to what a seat knows.
use Rattle.std.specs.Prelude.{◌≡◌, ℕ, ◌-◌, ◌+◌, ◌*◌, ◌/◌, ◌%◌, Bool, ◌&&◌, nat_eq, nat_lt, if◌then◌else◌, List, [], ◌∷◌, ◌++◌, length, slice_index, slice_index_or, slice_set, Option, Some, None}
use Rattle.std.specs.List.{list_any}
use Rattle.window_words.specs.declared.views.View.{View}
use Rattle.window_words.specs.declared.views.Owned.{Owned}
use Rattle.window_words.specs.declared.views.Pending.{Pending}
use Rattle.window_words.specs.declared.views.Reading.{Reading}
use Rattle.window_words.specs.declared.views.Call.{Call}
use Rattle.window_words.specs.declared.views.Call.TheVariants.{Open, Put, Close, Begin, Read, End, Stop, Stopped}

-- the last of some entries, and 0 where there is none
abbrev pub last_of : List ℕ → ℕ
last_of ks = slice_index ks (length ks - 1)

-- one window, with the entries that were closed there
abbrev pub one : ℕ → List ℕ → List Owned
one w closed = record { window = w; closed = closed } ∷ []

-- the seat owns this window and no other
abbrev pub OwnsOne : View → ℕ → List ℕ → Type 0
OwnsOne v w closed = v.owned ≡ one w closed

-- entry k is open, with so many words put
abbrev pub pending : ℕ → ℕ → Pending
pending k c = record { entry = k; put = c }

-- a reading of a window that began at this stamp, with no word read
abbrev pub begun : ℕ → ℕ → Reading
begun w first = record { window = w; first = first; words = [] }

abbrev pub entry_of : Option Pending → ℕ
entry_of None = 0
entry_of (Some p) = p.entry

-- one more word is put
abbrev pub one_more : Option Pending → Option Pending
one_more None = None
one_more (Some p) = Some (pending p.entry (p.put + 1))

-- one more word is read
abbrev pub longer : ℕ → Option Reading → Option Reading
longer n None = None
longer n (Some r) = Some record { window = r.window; first = r.first; words = r.words ++ n ∷ [] }

-- entry k is closed in the first of the windows
abbrev pub close_first : ℕ → List Owned → List Owned
close_first k [] = []
close_first k (a ∷ others) = record { window = a.window; closed = a.closed ++ k ∷ [] } ∷ others

-- the stamp of a window, by what its owner knows: odd while an entry is open
abbrev pub stamp_of : Option Pending → List ℕ → ℕ
stamp_of None closed = 2 * last_of closed
stamp_of (Some p) closed = 2 * p.entry - 1

-- both stamps of a reading are the even stamp of one entry
abbrev pub is_whole : ℕ → ℕ → Bool
is_whole first n = nat_eq first n && nat_eq (n % 2) 0 && nat_lt 0 n

-- an entry joins those that were accepted, each once
abbrev pub add_once : ℕ → List ℕ → List ℕ
add_once k ks = if list_any (λ j. nat_eq j k) ks then ks else (ks ++ k ∷ [])

-- entry k of a window is accepted: a leader's is kept as the latest
abbrev pub accept : ℕ → ℕ → ℕ → List (List ℕ) → List (List ℕ)
accept leaders w k accepted = slice_set accepted w
    (if nat_lt w leaders then k ∷ [] else add_once k (slice_index_or accepted w []))

abbrev pub with_owned : View → List Owned → Option Pending → View
with_owned v owned p = record v { owned = owned; pending = p }

abbrev pub with_reading : View → Option Reading → View
with_reading v r = record v { reading = r }

abbrev pub with_accepted : View → List (List ℕ) → View
with_accepted v accepted = record v { reading = None; accepted = accepted }

abbrev pub with_stopped : View → ℕ → View
with_stopped v last = record v { stopped = last }

-- a reading ends at the stamp n
abbrev pub ended : ℕ → ℕ → View → Option Reading → View
ended leaders n v None = v
ended leaders n v (Some r) = if is_whole r.first n
    then with_accepted v (accept leaders r.window (n / 2) v.accepted) else with_reading v None

-- what a seat knows after a call and its answer n
abbrev pub after : ℕ → Call → ℕ → View → View
after leaders (Open k) n v = with_owned v v.owned (Some (pending k 0))
after leaders (Put word) n v = with_owned v v.owned (one_more v.pending)
after leaders Close n v = with_owned v (close_first (entry_of v.pending) v.owned) None
after leaders (Begin w) n v = with_reading v (Some (begun w n))
after leaders (Read w) n v = with_reading v (longer n v.reading)
after leaders (End w) n v = ended leaders n v v.reading
after leaders (Stop last) n v = with_stopped v last
after leaders Stopped n v = v

-- the same of a call that isn't an end, which alone asks how many windows are leaders'
abbrev pub gained : Call → ℕ → View → View
gained call n v = after 0 call n v

-- a reading, if there is one, ended at the stamp n
abbrev pub HasEnded : ℕ → ℕ → View → View → Type 0
HasEnded leaders n v v' = v' ≡ ended leaders n v v.reading
