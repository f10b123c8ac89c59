use Rattle.std.proofs.Common.{arith, sym, ◌∙◌, ◌≡◌, ◌*ℤ◌, FitsSigned, rules}
use Rattle.std.proofs.lemmas.Int.{ints, to_z-of_z}
use Rattle.std.specs.Int.{w128}
use Rattle.branch_bound.proofs.gridding.divides.Goals as goal

pub returns-then-multiple-number : goal.returns-then-multiple-number
returns-then-multiple-number c = λ t.
    let fn = c.ranges.number in
    let fs = c.ranges.step in
    let fq : FitsSigned w128 c.div_euclid.result = search rules in
    let fm : FitsSigned w128 c.in-Some.multiple = search rules in
    let product : FitsSigned w128 (c.args.step *ℤ c.div_euclid.result) × (c.in-Some.multiple ≡ (c.args.step *ℤ c.div_euclid.result)) = simp to_z-of_z at c.in-Some.ensures in
    let same : c.in-Some.multiple ≡ c.args.number = omega (arith, ints, c.if-multiple-number.true, to_z-of_z w128 c.in-Some.multiple fm, to_z-of_z w128 c.args.number fn) in
    (c.div_euclid.result, sym same ∙ product.1)
