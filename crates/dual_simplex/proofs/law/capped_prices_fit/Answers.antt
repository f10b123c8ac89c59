use Rattle.dual_simplex.proofs.Fitting.{capped_fit}
use Rattle.dual_simplex.proofs.law.capped_prices_fit.Goals as goal

pub returns : goal.returns
returns c = capped_fit
