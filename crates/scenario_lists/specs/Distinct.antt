-- The entries of a list with one for each place.
use Rattle.std.specs.Prelude.{Bool, if◌then◌else◌, List, [], ◌∷◌, ◌++◌, find, Option}
use Rattle.std.specs.List.{fold, list_any}
use Rattle.stoch_lines.specs.Places.{same_place}
use Rattle.stoch_lines.specs.declared.places.StochEntry.{StochEntry}
use Rattle.stoch_lines.specs.declared.places.StochPlace.{StochPlace}

-- whether an entry is of this place
abbrev pub is_of : StochPlace → StochEntry → Bool
is_of place entry = same_place entry.place place

-- whether one of these entries is of this place
abbrev pub has_place : List StochEntry → StochPlace → Bool
has_place entries place = list_any (is_of place) entries

-- the first entry of a place, if there is one
abbrev pub entry_of : StochPlace → List StochEntry → Option StochEntry
entry_of place entries = find (is_of place) entries

-- one more entry, unless its place has one
abbrev pub with_entry : List StochEntry → StochEntry → List StochEntry
with_entry kept entry = if has_place kept entry.place then kept else kept ++ entry ∷ []

-- the first entry of each place
unfoldable pub first_of_each : List StochEntry → List StochEntry
first_of_each entries = fold with_entry [] entries
