use Rattle.std.proofs.Common.{◌<◌, sym, subst}
use Rattle.std.specs.Prelude.{ℕ}
use Rattle.dec_core.proofs.Powers.{power_positive}
use Rattle.core_lines.proofs.rounding.power_of_ten.Goals as goal

pub returns-clause-some : goal.returns-clause-some
returns-clause-some c = subst (λ (n : ℕ). 0 < n) (sym c.pow.ensures) (power_positive c.from.result)
