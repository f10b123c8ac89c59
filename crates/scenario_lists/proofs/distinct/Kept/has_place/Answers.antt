use Rattle.std.proofs.Common.{ap, ◌∙◌}
use Rattle.std.specs.Option.{is_some}
use Rattle.indexmap.specs.IndexMap.{get_by}
use Rattle.stoch_lines.proofs.Equal.{place_tests}
use Rattle.scenario_lists.specs.Distinct.{has_place}
use Rattle.scenario_lists.proofs.distinct.Kept.has_place.Goals as goal

pub returns-in-Some : goal.returns-in-Some
returns-in-Some c =
    let place = c.args.place in
    let found = c.in-Some.ensures.value ∙ ap (λ eq. get_by (eq place) c.self.inside.places) place_tests in
    ap is_some found ∙ (c.self.invariant place ∙ ap (λ entries. has_place entries place) c.self.view_is)

pub returns-in-None : goal.returns-in-None
returns-in-None c =
    let place = c.args.place in
    let found = c.in-None.ensures.value ∙ ap (λ eq. get_by (eq place) c.self.inside.places) place_tests in
    ap is_some found ∙ (c.self.invariant place ∙ ap (λ entries. has_place entries place) c.self.view_is)
