-- The last entry of each place at hand.
use Rattle.std.specs.Prelude.{◌≡◌, ◌+◌, List}
use Rattle.std.specs.Option.{option_map_or}
use Rattle.indexmap.specs.IndexMap.{IndexMap, get}
use Rattle.stoch_lines.specs.declared.entries.Owned.{Owned}
use Rattle.stoch_lines.specs.declared.entries.Mark.{Mark}
use Rattle.stoch_lines.specs.declared.places.StochPlace.{StochPlace}
use Rattle.stoch_lines.specs.Places.{same_place}
use Rattle.stoch_lines.specs.Faults.{last_at}

-- for each place the mark is that of its last entry, and there is none where it has no entry
pub record AreMarked {S : Type 0} (marks : IndexMap StochPlace Mark S)
    (items : List Owned) : Type 0 where
  pub elements : (place : StochPlace)
      → option_map_or (λ mark. mark.element + 1) (get same_place marks place) 0
      ≡ option_map_or (λ owned. owned.element + 1) (last_at place items) 0
  pub choices : (place : StochPlace)
      → option_map_or (λ mark. mark.choice + 1) (get same_place marks place) 0
      ≡ option_map_or (λ owned. owned.choice + 1) (last_at place items) 0
