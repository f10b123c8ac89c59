use Rattle.std.proofs.Common.{ap, unwrap_or, ◌∙◌, rules, tests}
use Rattle.std.proofs.lemmas.Iterator.{YieldsList-from_map, YieldsList-from_slice}
use Rattle.std.proofs.lemmas.Iterator.Consumers.{reduce_from_yields_List}
use Rattle.std.proofs.lemmas.List.Folds.{max_of_map}
use Rattle.dec_core.specs.declared.decimal.Decimal.{Decimal}
use Rattle.dec_core.proofs.scale.common.Goals as goal

pub returns-clause-value : goal.returns-clause-value
returns-clause-value c =
    let items = c.args.items.now in
    c.unwrap_or.ensures
    ∙ ap (λ o. unwrap_or o 0) (reduce_from_yields_List _ c.map.result _ c.max.ensures.ran (YieldsList-from_map _ (λ (item : Decimal). item.places) (YieldsList-from_slice items cc) c.map.ensures.closure (λ x b q k. search (rules, tests))))
    ∙ max_of_map (λ (item : Decimal). item.places) items
