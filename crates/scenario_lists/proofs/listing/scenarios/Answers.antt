use Rattle.std.proofs.Common.{sym, subst, ◌≡◌, ◌<◌, List}
use Rattle.std.specs.Prelude.{IfErr, IfOk}
use Rattle.smps_stoch.specs.declared.stoch.Stoch.{Stoch}
use Rattle.scenario_lists.specs.Live.{ByExcess, entry_count, live_scenarios}
use Rattle.scenario_lists.specs.declared.data.ScenarioData.{ScenarioData}
use Rattle.scenario_lists.proofs.Staying.{branches_live, products_live}
use Rattle.scenario_lists.proofs.listing.scenarios.Goals as goal

pub returns-in-Product-clause-ok : goal.returns-in-Product-clause-ok
returns-in-Product-clause-ok c =
    let r = c.product_scenarios.result in
    let live = c.args.live.now in
    subst (λ (st : Stoch). IfOk r (λ made. made ≡ live_scenarios live st)) (sym c.in-Product.is)
    (subst (λ (l : List ScenarioData). IfOk r (λ made. made ≡ l)) (products_live live c.in-Product.elements) c.product_scenarios.ensures.ok)

pub returns-in-Scenarios-clause-ok : goal.returns-in-Scenarios-clause-ok
returns-in-Scenarios-clause-ok c =
    let r = c.branch_scenarios.result in
    let live = c.args.live.now in
    subst (λ (st : Stoch). IfOk r (λ made. made ≡ live_scenarios live st)) (sym c.in-Scenarios.is)
    (subst (λ (l : List ScenarioData). IfOk r (λ made. made ≡ l)) (branches_live live c.in-Scenarios.branches) c.branch_scenarios.ensures.ok)

pub returns-in-Scenarios-clause-err : goal.returns-in-Scenarios-clause-err
returns-in-Scenarios-clause-err c =
    let r = c.branch_scenarios.result in
    let live = c.args.live.now in
    subst (λ (st : Stoch). IfErr r (ByExcess (c.args.limit < entry_count (live_scenarios live st)))) (sym c.in-Scenarios.is)
    (subst (λ (l : List ScenarioData). IfErr r (ByExcess (c.args.limit < entry_count l))) (branches_live live c.in-Scenarios.branches) c.branch_scenarios.ensures.err)
