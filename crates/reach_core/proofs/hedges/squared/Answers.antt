use Rattle.std.proofs.Common.{rules, refl, ◌∙◌, ◌≡◌, ◌*◌, unsigned_abs, FitsSigned}
use Rattle.std.proofs.lemmas.Int.{to_z-of_z}
use Rattle.std.specs.Int.{w128}
use Rattle.capped_num.proofs.Capping.{product_of_capped}
use Rattle.sp_model.specs.Reaching.{box_reach}
use Rattle.reach_core.proofs.Capped.{square_capped, triple}
use Rattle.reach_core.proofs.hedges.squared.Goals as goal

pub returns : goal.returns
returns c =
    let m = box_reach c.args.program.now c.args.j in
    let rho = unsigned_abs c.args.options.now.rho in
    let total = unsigned_abs c.args.total in
    let fr : FitsSigned w128 c.args.options.now.rho = search rules in
    let ft : FitsSigned w128 c.args.total = c.ranges.total in
    let rho_is : c.size.result ≡ rho = simp to_z-of_z at c.size.ensures.size in
    let total_is : c.size-2.result ≡ total = simp to_z-of_z at c.size-2.ensures.size in
    c.capped_product-2.ensures
    ∙ product_of_capped (3 * rho * total) (m * m) c.product.result c.capped_product.result
    (c.product.ensures ∙ triple 3 c.size.result c.size-2.result 3 rho total refl rho_is total_is)
    (c.capped_product.ensures ∙ square_capped c.box_reach-reach.result m c.box_reach-reach.ensures)
