use Rattle.std.proofs.Common.{◌≡◌, List, length, sym, ◌∙◌, subst}
use Rattle.std.specs.List.{All}
use Rattle.stoch_lines.specs.Turns.{before_in}
use Rattle.smps_stoch.specs.declared.drafts.Draft.{Draft}
use Rattle.smps_stoch.specs.SaidFacts.{IsProbable}
use Rattle.smps_stoch.specs.StochData.{drafts_of, elements_of}
use Rattle.smps_stoch.proofs.Answering.{product_is}
use Rattle.smps_stoch.proofs.StochLaws.{drafts_probable}
use Rattle.smps_stoch.proofs.data.stoch_of.Goals as goal

pub elements_of-requires : goal.elements_of-requires
elements_of-requires c =
    let state = c.args.state in
    let made = c.in_ok-drafts.ensures in
    let realisations = c.as_slice-2.ensures in
    let entries = c.as_slice-3.ensures in
    let listed = c.into_list-entries.ensures in
    let same : c.in_ok-drafts.drafts.items ≡ drafts_of state.realisations state.entries = cc in
    subst (λ (ds : List Draft). All (λ (d : Draft). IsProbable d.probability) ds) (sym same) (drafts_probable state.realisations state.entries c.requires.chosen)

pub returns : goal.returns
returns c =
    let state = c.args.state in
    let made = c.in_ok-drafts.ensures in
    let realisations = c.as_slice-2.ensures in
    let entries = c.as_slice-3.ensures in
    let periods = c.as_slice-4.ensures in
    let listed = c.into_list-entries.ensures in
    let elements = c.in_ok-elements.ensures in
    let whole = c.from_vec-2.ensures in
    let same : c.from_vec-2.result ≡ elements_of state.periods (drafts_of state.realisations state.entries) = cc in
    let none : length state.scenarios ≡ 0 = sym c.len.ensures ∙ c.if-len-ne0.false in
    product_is (before_in state) c.from_vec-2.result none same
