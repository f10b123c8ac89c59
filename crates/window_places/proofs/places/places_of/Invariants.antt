use Rattle.window_places.specs.Places.{ArePlaces}
use Rattle.window_places.proofs.places.places_of.Given as goal

abbrev pub invariant-loop-window : goal.invariant-loop-window
invariant-loop-window g l = ArePlaces (g.M.Meaning.wide l.of) l.window l.starts.items l.next
