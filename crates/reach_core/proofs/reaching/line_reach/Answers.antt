use Rattle.std.proofs.Common.{rules, ap, ◌∙◌, ◌≡◌, ◌+◌, ◌*◌, length, unsigned_abs, FitsSigned}
use Rattle.std.proofs.lemmas.Int.{to_z-of_z}
use Rattle.std.specs.Int.{w128}
use Rattle.base_words.specs.Sums.{size_below}
use Rattle.capped_num.specs.Capped.{capped}
use Rattle.capped_num.proofs.Capping.{product_of_capped}
use Rattle.sp_model.specs.Changes.{all_data}
use Rattle.sp_model.specs.Reaching.{box_reach, cost_reach}
use Rattle.reach_core.proofs.Costs.{costs_capped, tops_long}
use Rattle.reach_core.proofs.reaching.line_reach.Goals as goal

pub cost_sum-requires : goal.cost_sum-requires
cost_sum-requires c = ap length c.requires ∙ tops_long c.args.program.now (all_data c.args.program.now)

pub returns : goal.returns
returns c =
    let p = c.args.program.now in
    let scale = unsigned_abs c.args.options.now.scale in
    let total = unsigned_abs c.args.total in
    let costs = unsigned_abs p.constant + size_below (length p.columns) (λ j. cost_reach p j * box_reach p j) in
    let fs : FitsSigned w128 c.args.options.now.scale = search rules in
    let ft : FitsSigned w128 c.args.total = c.ranges.total in
    let fc : FitsSigned w128 c.args.program.now.constant = search rules in
    let constant_is : c.size.result ≡ unsigned_abs p.constant = simp to_z-of_z at c.size.ensures.size in
    let scale_is : c.size-2.result ≡ scale = simp to_z-of_z at c.size-2.ensures.size in
    let total_is : c.size-3.result ≡ total = simp to_z-of_z at c.size-3.ensures.size in
    let costs_is : c.capped_sum-costs.result ≡ capped costs = c.capped_sum-costs.ensures ∙ costs_capped p c.args.tops.now c.size.result c.cost_sum.result c.requires constant_is c.cost_sum.ensures in
    let factor_is : c.capped_product.result ≡ capped (scale * total) = c.capped_product.ensures ∙ (ap (λ n. capped (n * c.size-3.result)) scale_is ∙ ap (λ n. capped (scale * n)) total_is) in
    c.capped_product-2.ensures ∙ product_of_capped (scale * total) costs c.capped_product.result c.capped_sum-costs.result factor_is costs_is
