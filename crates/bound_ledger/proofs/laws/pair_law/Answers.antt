use Rattle.bound_ledger.proofs.Pairing.{pair_is}
use Rattle.bound_ledger.proofs.laws.pair_law.Goals as goal

pub returns : goal.returns
returns c = pair_is
