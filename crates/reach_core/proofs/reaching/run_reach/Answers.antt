use Rattle.std.proofs.Common.{◌≡◌, ◌+◌, ◌*◌, ◌∙◌, ap, length, FitsSigned}
use Rattle.std.proofs.lemmas.Int.{to_z-of_z}
use Rattle.std.specs.Int.{w128}
use Rattle.capped_num.specs.Capped.{capped}
use Rattle.sp_model.specs.Reaching.{hedge_reach, line_reach, raw_reach}
use Rattle.reach_core.proofs.Data.{reach_capped}
use Rattle.reach_core.proofs.reaching.run_reach.Goals as goal

pub returns : goal.returns
returns c =
    let p = c.args.program.now in
    let o = c.args.options.now in
    let total = c.args.total in
    let nonleaf = c.args.nonleaf in
    let ft : FitsSigned w128 c.args.total = c.ranges.total in
    let line : c.line_reach-line.result ≡ capped (line_reach p o total) = simp to_z-of_z at c.line_reach-line.ensures in
    let hedged : c.hedged.result ≡ capped (2 * length p.scenarios * hedge_reach p o total nonleaf) = simp to_z-of_z at c.hedged.ensures in
    let raw : c.raw_reach.result ≡ capped (raw_reach p o total nonleaf) = simp to_z-of_z at c.raw_reach.ensures in
    let front : c.capped_sum-front.result ≡ capped (capped (2 * c.line_reach-line.result) + c.hedged.result) = c.capped_sum-front.ensures ∙ ap (λ n. capped (n + c.hedged.result)) c.capped_product.ensures in
    let most : c.capped_sum-2.result ≡ capped (capped (c.capped_sum-front.result + c.raw_reach.result) + c.in_ok-greatest.greatest.rows) = c.capped_sum-2.ensures ∙ ap (λ n. capped (n + c.in_ok-greatest.greatest.rows)) c.capped_sum.ensures in
    reach_capped p o total nonleaf c.line_reach-line.result c.hedged.result c.raw_reach.result c.in_ok-greatest.greatest.rows c.capped_sum-front.result c.capped_sum-2.result line hedged raw c.in_ok-greatest.ensures.rows front most
