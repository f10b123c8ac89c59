-- Entries with one for each place, and their places at hand.
use Rattle.std.specs.Prelude.{◌≡◌, List}
use Rattle.std.specs.Option.{is_some}
use Rattle.indexmap.specs.IndexMap.{IndexMap, get}
use Rattle.stoch_lines.specs.Places.{same_place}
use Rattle.stoch_lines.specs.declared.places.StochEntry.{StochEntry}
use Rattle.stoch_lines.specs.declared.places.StochPlace.{StochPlace}
use Rattle.scenario_lists.specs.Distinct.{has_place}

-- the places at hand are those of the entries
abbrev pub ArePlaces : {V S : Type 0} → IndexMap StochPlace V S → List StochEntry → Type 0
ArePlaces places items =
    (place : StochPlace) → is_some (get same_place places place) ≡ has_place items place
