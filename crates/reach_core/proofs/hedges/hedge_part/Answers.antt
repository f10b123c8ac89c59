use Rattle.std.proofs.Common.{◌∙◌, ◌≡◌, ◌+◌, ◌*◌, unsigned_abs, FitsSigned}
use Rattle.std.proofs.lemmas.Int.{to_z-of_z}
use Rattle.std.specs.Int.{w128}
use Rattle.capped_num.specs.Capped.{capped}
use Rattle.capped_num.proofs.Capping.{sum_of_capped}
use Rattle.sp_model.specs.Reaching.{box_reach, step_reach}
use Rattle.reach_core.proofs.Capped.{sum_with}
use Rattle.reach_core.proofs.hedges.hedge_part.Goals as goal

pub returns : goal.returns
returns c =
    let m = box_reach c.args.program.now c.args.j in
    let rho = unsigned_abs c.args.options.now.rho in
    let total = unsigned_abs c.args.total in
    let many = 2 * ((c.args.options.now.iterations + 2) * step_reach c.args.program.now c.args.options.now c.args.total c.args.j) * m in
    let squares = 3 * rho * total * (m * m) in
    let ft : FitsSigned w128 c.args.total = c.ranges.total in
    let many_is : c.multiplied.result ≡ capped many = simp to_z-of_z at c.multiplied.ensures in
    let squares_is : c.squared.result ≡ capped squares = simp to_z-of_z at c.squared.ensures in
    c.capped_sum-2.ensures ∙ sum_with (many + squares) m c.capped_sum.result c.box_reach.result (c.capped_sum.ensures ∙ sum_of_capped many squares c.multiplied.result c.squared.result many_is squares_is) c.box_reach.ensures
