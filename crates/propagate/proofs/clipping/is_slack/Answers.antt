use Rattle.std.proofs.Common.{arith, ◌*ℤ◌, FitsSigned, rules}
use Rattle.std.proofs.lemmas.Int.{ints, to_z-of_z}
use Rattle.std.specs.Int.{w128}
use Rattle.propagate.proofs.ClipLaws.{extent_product_fits}
use Rattle.propagate.proofs.clipping.is_slack.Goals as goal

pub overflow_mul-result : goal.overflow_mul-result
overflow_mul-result c =
    let fs = c.ranges.size in
    let fe : FitsSigned w128 c.extent.result = search rules in
    simp to_z-of_z (rw c.extent.ensures (extent_product_fits c.args.size c.args.side c.requires.fits))

pub returns : goal.returns
returns c =
    let fs = c.ranges.size in
    let fl = c.ranges.slack in
    let fe : FitsSigned w128 c.extent.result = search rules in
    let fits : FitsSigned w128 (c.args.size *ℤ c.extent.result) = rw c.extent.ensures (extent_product_fits c.args.size c.args.side c.requires.fits) in
    simp to_z-of_z (rw c.extent.ensures ((λ h. grind (arith, ints)), (λ h. grind (arith, ints))))
