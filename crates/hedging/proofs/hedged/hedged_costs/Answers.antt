use Rattle.std.proofs.Common.{rules, arith, ap, ◌≡◌, ◌<◌, ◌≤◌, ◌^◌, [], ◌∷◌, ◌++◌, length, unsigned_abs, FitsSigned}
use Rattle.std.proofs.lemmas.Int.{to_z-of_z}
use Rattle.std.specs.Int.{w128}
use Rattle.base_words.specs.Sums.{number_at}
use Rattle.base_words.proofs.Made.{map_next}
use Rattle.put_words.specs.Hedged.{hedged_line}
use Rattle.sp_model.proofs.DataFacts.{line_small}
use Rattle.put_words.proofs.Spans.{costs_long}
use Rattle.hedging.proofs.hedged.hedged_costs.Goals as goal

pub bounds-costs-column : goal.bounds-costs-column
bounds-costs-column c = omega (arith, ap length c.requires.costs, costs_long c.args.run.now c.args.scenario c.requires.scenario, c.loop-column-test.true, c.len-column-end.ensures)

pub hedged_cost-requires-clause-cost : goal.hedged_cost-requires-clause-cost
hedged_cost-requires-clause-cost c =
    let fc : FitsSigned w128 (number_at c.args.costs.now c.loop-column.column) = search rules in
    simp to_z-of_z (ap (λ costs. number_at costs c.loop-column.column) c.requires.costs)

pub hedged_cost-requires-clause-small : goal.hedged_cost-requires-clause-small
hedged_cost-requires-clause-small c =
    let run = c.args.run.now in
    let fc : FitsSigned w128 (number_at c.args.costs.now c.loop-column.column) = search rules in
    let below : c.loop-column.column < length run.program.columns = omega (arith, c.loop-column-test.true, c.len-column-end.ensures) in
    let small : unsigned_abs (number_at c.args.costs.now c.loop-column.column) ≤ 2 ^ 122 = rw c.requires.costs (line_small run c.args.scenario c.loop-column.column c.requires.scenario below) in
    simp to_z-of_z small

pub loop-column-preserved : goal.loop-column-preserved
loop-column-preserved c =
    let fv : FitsSigned w128 c.hedged_cost.result = search rules in
    let pushed : c.push.new.self ≡ c.loop-column.line ++ c.hedged_cost.result ∷ [] = simp to_z-of_z at c.in_ok-push.ensures.ok in
    map_next (hedged_line c.args.run.now c.args.put.now.multipliers c.args.put.now.x c.args.scenario) c.loop-column.column c.loop-column.line c.push.new.self c.hedged_cost.result pushed c.hedged_cost.ensures c.loop-column.invariant
