use Rattle.std.proofs.Common.{ap, ◌∙◌, ◌≡◌, ◌+◌, ◌*◌, FitsSigned}
use Rattle.std.proofs.lemmas.Int.{to_z-of_z}
use Rattle.std.specs.Int.{w128}
use Rattle.capped_num.specs.Capped.{capped}
use Rattle.sp_model.specs.Reaching.{box_reach, step_reach}
use Rattle.reach_core.proofs.Capped.{doubled_capped, product_by}
use Rattle.reach_core.proofs.hedges.multiplied.Goals as goal

pub returns : goal.returns
returns c =
    let m = box_reach c.args.program.now c.args.j in
    let step = step_reach c.args.program.now c.args.options.now c.args.total c.args.j in
    let count = c.args.options.now.iterations + 2 in
    let ft : FitsSigned w128 c.args.total = c.ranges.total in
    let step_is : c.step_reach.result ≡ capped step = simp to_z-of_z at c.step_reach.ensures in
    let most : c.capped_product-most.result ≡ capped (count * step) = c.capped_product-most.ensures ∙ (ap (λ n. capped ((n + 2) * c.step_reach.result)) c.from.ensures ∙ product_by count step c.step_reach.result step_is) in
    c.product.ensures ∙ (ap (λ n. capped (2 * c.capped_product-most.result * n)) c.box_reach.ensures ∙ doubled_capped (count * step) m c.capped_product-most.result most)
