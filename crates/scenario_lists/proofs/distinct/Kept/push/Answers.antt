use Rattle.std.proofs.Common.{sym, subst, Some}
use Rattle.indexmap.specs.IndexMap.{Updates}
use Rattle.stoch_lines.proofs.Equal.{place_tests}
use Rattle.scenario_lists.specs.Kept.{ArePlaces}
use Rattle.scenario_lists.proofs.Keeping.{places_push}
use Rattle.scenario_lists.proofs.distinct.Kept.push.Goals as goal

pub invariant_of-self-in-Ok : goal.invariant_of-self-in-Ok
invariant_of-self-in-Ok c =
    let entry = c.args.entry in
    let places = c.self.inside.places in
    let after = c.insert.new.self in
    let updates = subst (λ eq. Updates eq places after entry.place (Some entry.line)) place_tests c.in-Ok.ensures.updates in
    subst (λ items. ArePlaces after items) (sym c.in_ok-push.ensures.ok) (places_push places after c.self.inside.items entry entry.line c.self.invariant updates)
