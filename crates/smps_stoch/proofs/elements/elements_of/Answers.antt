use Rattle.std.proofs.Common.{◌≡◌, List, length, ap, ◌∙◌, subst}
use Rattle.std.specs.Prelude.{IfOk}
use Rattle.smps_stoch.specs.declared.stoch.Element.{Element}
use Rattle.smps_stoch.specs.declared.drafts.Draft.{Draft}
use Rattle.smps_stoch.specs.ElementSteps.{places_by}
use Rattle.smps_stoch.proofs.Entries.{each_place, elements_made, enough_places, few_places}
use Rattle.smps_stoch.proofs.elements.elements_of.Goals as goal

pub filled_elements-requires-clause-each : goal.filled_elements-requires-clause-each
filled_elements-requires-clause-each c =
    each_place c.args.drafts.items c.as_slice-2.result.now (length c.args.periods.now)
    (c.as_slice-2.ensures.value ∙ c.in_ok-places.ensures ∙ ap (λ (ds : List Draft). places_by ds (length c.args.periods.now)) c.as_slice.ensures.value)

pub filled_elements-requires-clause-enough : goal.filled_elements-requires-clause-enough
filled_elements-requires-clause-enough c =
    enough_places c.args.drafts.items c.as_slice-2.result.now (length c.args.periods.now)
    (c.as_slice-2.ensures.value ∙ c.in_ok-places.ensures ∙ ap (λ (ds : List Draft). places_by ds (length c.args.periods.now)) c.as_slice.ensures.value)

pub filled_elements-requires-clause-most : goal.filled_elements-requires-clause-most
filled_elements-requires-clause-most c =
    few_places c.args.drafts.items c.as_slice-2.result.now (length c.args.periods.now)
    (c.as_slice-2.ensures.value ∙ c.in_ok-places.ensures ∙ ap (λ (ds : List Draft). places_by ds (length c.args.periods.now)) c.as_slice.ensures.value)
    c.requires

pub returns : goal.returns
returns c =
    let same : c.as_slice-2.result.now ≡ places_by c.args.drafts.items (length c.args.periods.now) = c.as_slice-2.ensures.value ∙ c.in_ok-places.ensures ∙ ap (λ (ds : List Draft). places_by ds (length c.args.periods.now)) c.as_slice.ensures.value in
    subst (λ (xs : List Element). IfOk c.filled_elements.result (λ elements. elements.items ≡ xs)) (elements_made c.args.periods.now c.as_slice-2.result.now c.args.drafts.items same) c.filled_elements.ensures
