use Rattle.std.proofs.Common.{subst, ◌∙◌, ◌≡◌, FitsSigned, rules}
use Rattle.std.proofs.lemmas.Int.{to_z-of_z}
use Rattle.std.specs.Int.{w128}
use Rattle.wide_num.specs.Quotients.{IsCeiling}
use Rattle.safe_bound.specs.PriceBound.{price_total}
use Rattle.safe_bound.proofs.ReducedLaws.{reduced_total-is}
use Rattle.safe_bound.proofs.reducing.bound_from.Goals as goal

pub returns-clause-bound : goal.returns-clause-bound
returns-clause-bound c = λ b prices h.
    let r = c.args.reduced.now in
    let fr : FitsSigned w128 c.ceil_div.result = search rules in
    let ft : FitsSigned w128 c.total_from.result = search rules in
    let fs : FitsSigned w128 r.scale = search rules in
    let total : c.total_from.result ≡ price_total b prices c.args.sides.now = c.total_from.ensures ∙ reduced_total-is b prices r c.args.sides.now h c.requires in
    let q : IsCeiling c.total_from.result r.scale c.ceil_div.result = simp to_z-of_z at c.ceil_div.ensures in
    let p = subst (λ z. IsCeiling z r.scale c.ceil_div.result) total q in
    simp to_z-of_z (subst (λ z. IsCeiling (price_total b prices c.args.sides.now) z c.ceil_div.result) h.scale p)
