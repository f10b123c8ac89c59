-- Seats of a fresh board, how the hub's seat hands out a window, and how two seats become one.
use Rattle.std.specs.Prelude.{ℕ, ◌+◌, false, true, ◌||◌, if◌then◌else◌, max, nat_lt, List, [], ◌∷◌, ◌++◌, map, length, slice_index_or, replicate, Option, Some, None}
use Rattle.std.specs.List.{range_with_len}
use Rattle.window_words.specs.Views.{add_once, last_of, one}
use Rattle.window_words.specs.Conditions.{AcceptedOwn, IsBehindOwn}
use Rattle.window_words.specs.declared.views.View.{View}
use Rattle.window_words.specs.declared.views.Known.{Known}
use Rattle.window_words.specs.declared.views.Call.{Call}
use Rattle.window_words.specs.declared.views.Call.TheVariants.{Open, Put, Close, Begin, Read, End, Stop, Stopped}

-- a seat that knows nothing
abbrev pub no_view : View
no_view = record {
  hub = false;
  dealt = 0;
  owned = [];
  pending = None;
  reading = None;
  accepted = [];
  stopped = 0;
}

-- what the hub's seat knows where so many windows are handed out, and nothing else was done
abbrev pub dealing_view : ℕ → ℕ → View
dealing_view count dealt = record {
  hub = true;
  dealt = dealt;
  owned = [];
  pending = None;
  reading = None;
  accepted = replicate count [];
  stopped = 0;
}

-- what the hub's seat knows of a fresh board: all windows are handed out
abbrev pub hub_view : ℕ → View
hub_view count = dealing_view count count

-- what the owner of window w knows of a fresh board
abbrev pub owner_view : ℕ → ℕ → View
owner_view count w = record {
  hub = false;
  dealt = 0;
  owned = one w [];
  pending = None;
  reading = None;
  accepted = replicate count [];
  stopped = 0;
}

-- the hub's seat, and behind it one for each window
abbrev pub fresh_views : ℕ → List View
fresh_views count = hub_view count ∷ map (owner_view count) (range_with_len 0 count)

-- what a seat that hands out a window knows of it: one more is handed out
abbrev pub one_more_dealt : View → View
one_more_dealt v = record v { dealt = v.dealt + 1 }

-- the seat that owns the window handed out
abbrev pub next_owner : View → View
next_owner v = owner_view (length v.accepted) v.dealt

-- entries join those that were accepted, each once
abbrev pub add_all : List ℕ → List ℕ → List ℕ
add_all [] ks = ks
add_all (j ∷ js) ks = add_all js (add_once j ks)

-- what two seats accepted of window w: of a leader's the later of the two latest entries, of
-- another's the entries of both
abbrev pub accepted_of_both : ℕ → ℕ → List ℕ → List ℕ → List ℕ
accepted_of_both leaders w ks js = if nat_lt w leaders
    then (if nat_lt (last_of ks) (last_of js) then js else ks) else add_all js ks

-- the same of each window
abbrev pub accepted_by_both : ℕ → List (List ℕ) → List (List ℕ) → List (List ℕ)
accepted_by_both leaders kss jss =
    map (λ w. accepted_of_both leaders w (slice_index_or kss w []) (slice_index_or jss w []))
    (range_with_len 0 (max (length kss) (length jss)))

-- what one seat knows that takes another in: it owns and has accepted what both did, it is the
-- hub's where either was, and what either was reading is dropped
abbrev pub united : ℕ → View → View → View
united leaders v u = record {
  hub = v.hub || u.hub;
  dealt = if v.hub then v.dealt else u.dealt;
  owned = v.owned ++ u.owned;
  pending = None;
  reading = None;
  accepted = accepted_by_both leaders v.accepted u.accepted;
  stopped = if v.hub then v.stopped else u.stopped;
}

-- what an answer tells of the windows that the seat itself owns
abbrev pub TellsOwn : ℕ → Call → ℕ → View → Type 0
TellsOwn leaders (Open k) n v = Unit {0}
TellsOwn leaders (Put word) n v = Unit {0}
TellsOwn leaders Close n v = Unit {0}
TellsOwn leaders (Begin w) n v = AcceptedOwn v w
TellsOwn leaders (Read w) n v = Unit {0}
TellsOwn leaders (End w) n v = IsBehindOwn leaders v w n
TellsOwn leaders (Stop last) n v = Unit {0}
TellsOwn leaders Stopped n v = Unit {0}

-- the number of leaders' windows, where the meaning is known
abbrev pub leaders_of : {M : Type 0} → (M → ℕ) → Option M → ℕ
leaders_of lead None = 0
leaders_of lead (Some of) = lead of

-- the same of seats at a table, which know the meaning too; a seat that was taken in knows nothing
module _ {M : Type 0} where
  abbrev pub deals : Known M → Known M
  deals k = record { of = k.of; view = one_more_dealt k.view }

  abbrev pub dealt_out : Known M → Known M
  dealt_out k = record { of = k.of; view = next_owner k.view }

  abbrev pub joined : (M → ℕ) → Known M → Known M → Known M
  joined lead k j = record { of = k.of; view = united (leaders_of lead k.of) k.view j.view }

  abbrev pub nobody : Known M
  nobody = record { of = None; view = no_view }
