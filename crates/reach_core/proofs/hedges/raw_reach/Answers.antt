use Rattle.std.proofs.Common.{rules, ap, ◌∙◌, ◌≡◌, ◌*◌, max, unsigned_abs, FitsSigned}
use Rattle.std.proofs.lemmas.Int.{to_z-of_z}
use Rattle.std.specs.Int.{w128}
use Rattle.std.proofs.Common.{map}
use Rattle.std.specs.List.{range_with_len}
use Rattle.capped_num.specs.Capped.{capped}
use Rattle.sp_model.specs.Reaching.{box_reach, greatest}
use Rattle.reach_core.proofs.Capped.{product_by, product_with, square_capped}
use Rattle.reach_core.proofs.hedges.raw_reach.Goals as goal

pub returns : goal.returns
returns c =
    let most = greatest (map (box_reach c.args.program.now) (range_with_len 0 c.args.nonleaf)) in
    let rho = unsigned_abs c.args.options.now.rho in
    let total = unsigned_abs c.args.total in
    let fr : FitsSigned w128 c.args.options.now.rho = search rules in
    let ft : FitsSigned w128 c.args.total = c.ranges.total in
    let total_is : c.size-total.result ≡ total = simp to_z-of_z at c.size-total.ensures.size in
    let rho_is : c.size.result ≡ rho = simp to_z-of_z at c.size.ensures.size in
    let square : c.capped_product.result ≡ capped (total * total) = c.capped_product.ensures ∙ square_capped c.size-total.result total total_is in
    let squares : c.product-squares.result ≡ capped (2 * rho * (total * total)) = c.product-squares.ensures ∙ (ap (λ n. capped (2 * n * c.capped_product.result)) rho_is ∙ product_by (2 * rho) (total * total) c.capped_product.result square) in
    c.capped_product-2.ensures ∙ product_with (2 * rho * (total * total)) (max 1 most) c.product-squares.result c.larger.result squares (c.larger.ensures ∙ ap (max 1) c.greatest_box.ensures)
