use Rattle.std.proofs.Common.{arith, refl, ◌∙◌}
use Rattle.branch_bound.proofs.Unpriced.{unpriced_fit}
use Rattle.branch_bound.proofs.pricing.no_prices.Goals as goal

pub returns : goal.returns
returns c =
    unpriced_fit c.args.problem.now _ refl (c.in_ok-values.ensures.long ∙ c.len.ensures) (λ k l. c.in_ok-values.ensures.all k (omega (arith, l, c.len.ensures)))
