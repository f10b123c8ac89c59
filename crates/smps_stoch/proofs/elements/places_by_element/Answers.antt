use Rattle.std.proofs.Common.{◌∙◌}
use Rattle.smps_stoch.proofs.Entries.{places_none}
use Rattle.smps_stoch.proofs.elements.places_by_element.Goals as goal

pub loop-draft-init : goal.loop-draft-init
loop-draft-init c = c.in_ok-places.ensures ∙ places_none c.args.count
