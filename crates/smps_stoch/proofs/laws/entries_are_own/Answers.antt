use Rattle.smps_stoch.proofs.OwnEntries.{own_lines}
use Rattle.smps_stoch.proofs.laws.entries_are_own.Goals as goal

pub returns : goal.returns
returns c = own_lines
