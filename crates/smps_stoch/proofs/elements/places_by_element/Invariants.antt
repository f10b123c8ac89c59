use Rattle.std.proofs.Common.{◌≡◌, take}
use Rattle.smps_stoch.specs.ElementSteps.{places_by}
use Rattle.smps_stoch.proofs.elements.places_by_element.Given as goal

abbrev pub invariant-loop-draft : goal.invariant-loop-draft
invariant-loop-draft l = l.places.items ≡ places_by (take l.draft-index l.drafts) l.count
