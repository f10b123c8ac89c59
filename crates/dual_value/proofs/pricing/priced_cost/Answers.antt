use Rattle.std.proofs.Common.{rules, arith, ap, ◌∙◌, ◌≡◌, length, ◌+ℤ◌, FitsSigned}
use Rattle.std.proofs.lemmas.Int.{to_z-of_z}
use Rattle.std.specs.Int.{w128}
use Rattle.base_words.specs.Sums.{number_at}
use Rattle.sp_model.specs.Problems.{problem_in}
use Rattle.put_words.proofs.Spans.{costs_long}
use Rattle.dual_value.proofs.PricedSums.{priced_fits}
use Rattle.dual_value.proofs.pricing.priced_cost.Goals as goal

pub bounds-costs-column : goal.bounds-costs-column
bounds-costs-column c = omega (arith, ap length c.requires.costs, costs_long c.args.run.now c.args.scenario c.requires.scenario, c.requires.column)

pub plus-requires : goal.plus-requires
plus-requires c =
    let fc : FitsSigned w128 (number_at c.args.costs.now c.args.column) = search rules in
    let fp : FitsSigned w128 c.price.result = search rules in
    simp to_z-of_z (rw (c.requires.costs, c.price.ensures) (priced_fits c.args.run.now c.args.multipliers.now c.args.scenario c.args.column c.requires.sized c.requires.scenario c.requires.column))

pub returns : goal.returns
returns c =
    let fc : FitsSigned w128 (number_at c.args.costs.now c.args.column) = search rules in
    let fp : FitsSigned w128 c.price.result = search rules in
    let sum : c.plus.result ≡ (number_at c.args.costs.now c.args.column +ℤ c.price.result) = simp to_z-of_z at c.plus.ensures in
    let fr : FitsSigned w128 c.plus.result = search rules in
    simp to_z-of_z
    (sum
    ∙ ap (λ costs. number_at costs c.args.column +ℤ c.price.result) c.requires.costs
    ∙ ap (λ price. number_at (problem_in c.args.run.now c.args.scenario).line c.args.column +ℤ price) c.price.ensures)
