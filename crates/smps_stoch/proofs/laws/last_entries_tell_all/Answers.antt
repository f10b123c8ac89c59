use Rattle.smps_stoch.proofs.AnyEntry.{tells_all}
use Rattle.smps_stoch.proofs.laws.last_entries_tell_all.Goals as goal

pub returns : goal.returns
returns c = tells_all
