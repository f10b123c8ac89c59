use Rattle.std.proofs.Common.{rules, ◌≡◌, [], ◌∷◌, ◌++◌, FitsSigned}
use Rattle.std.proofs.lemmas.Int.{to_z-of_z}
use Rattle.std.specs.Int.{w128}
use Rattle.dual_value.specs.Duals.{priced_at}
use Rattle.base_words.proofs.Made.{map_next}
use Rattle.dual_value.proofs.pricing.priced_costs.Goals as goal

pub loop-column-preserved : goal.loop-column-preserved
loop-column-preserved c =
    let fv : FitsSigned w128 c.priced_cost.result = search rules in
    let pushed : c.push.new.self ≡ c.loop-column.line ++ c.priced_cost.result ∷ [] = simp to_z-of_z at c.in_ok-push.ensures.ok in
    map_next (priced_at c.args.run.now c.args.multipliers.now c.args.scenario) c.loop-column.column c.loop-column.line c.push.new.self c.priced_cost.result pushed c.priced_cost.ensures c.loop-column.invariant
