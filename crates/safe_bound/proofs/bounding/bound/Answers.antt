use Rattle.std.proofs.Common.{subst, FitsSigned, rules}
use Rattle.std.proofs.lemmas.Int.{to_z-of_z}
use Rattle.std.specs.Int.{w128}
use Rattle.wide_num.specs.Quotients.{IsCeiling}
use Rattle.boxed_problem.specs.Data.{problem_of}
use Rattle.safe_bound.specs.PriceBound.{IsPriceBound}
use Rattle.safe_bound.proofs.PriceLaws.{bound_below}
use Rattle.safe_bound.proofs.bounding.bound.Goals as goal

pub returns-clause-below : goal.returns-clause-below
returns-clause-below c =
    let b = problem_of c.args.problem.now in
    let y = c.args.prices.now in
    let fr : FitsSigned w128 c.ceil_div.result = search rules in
    let fs : FitsSigned w128 y.scale = search rules in
    let ft : FitsSigned w128 c.price_total.result = search rules in
    let q : IsCeiling c.price_total.result y.scale c.ceil_div.result = simp to_z-of_z at c.ceil_div.ensures in
    let p : IsPriceBound b y c.args.sides.now c.ceil_div.result = subst (λ z. IsCeiling z y.scale c.ceil_div.result) c.price_total.ensures q in
    λ x f i. simp to_z-of_z (bound_below b y c.args.sides.now c.ceil_div.result c.args.problem.now.facts.places c.requires.prices c.requires.sides p x f i)
