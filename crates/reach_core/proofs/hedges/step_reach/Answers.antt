use Rattle.std.proofs.Common.{rules, refl, ◌∙◌, ◌≡◌, ◌*◌, length, unsigned_abs, FitsSigned}
use Rattle.std.proofs.lemmas.Int.{to_z-of_z}
use Rattle.std.specs.Int.{w128}
use Rattle.sp_model.specs.Reaching.{box_reach}
use Rattle.reach_core.proofs.Capped.{product_with, sum_with, triple}
use Rattle.reach_core.proofs.hedges.step_reach.Goals as goal

pub returns : goal.returns
returns c =
    let m = box_reach c.args.program.now c.args.j in
    let rho = unsigned_abs c.args.options.now.rho in
    let total = unsigned_abs c.args.total in
    let fr : FitsSigned w128 c.args.options.now.rho = search rules in
    let ft : FitsSigned w128 c.args.total = c.ranges.total in
    let rho_is : c.size.result ≡ rho = simp to_z-of_z at c.size.ensures.size in
    let total_is : c.size-2.result ≡ total = simp to_z-of_z at c.size-2.ensures.size in
    c.capped_sum.ensures
    ∙ sum_with (2 * rho * total * m) (length c.args.program.now.scenarios) c.capped_product.result c.len.result
    (c.capped_product.ensures ∙ product_with (2 * rho * total) m c.product-moves.result c.box_reach.result
    (c.product-moves.ensures ∙ triple 2 c.size.result c.size-2.result 2 rho total refl rho_is total_is)
    c.box_reach.ensures)
    c.len.ensures
