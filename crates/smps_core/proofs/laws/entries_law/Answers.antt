use Rattle.smps_core.proofs.Saying.{entries_both}
use Rattle.smps_core.proofs.laws.entries_law.Goals as goal

pub returns : goal.returns
returns c = entries_both
