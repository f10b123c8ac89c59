use Rattle.std.proofs.Common.{length}
use Rattle.sp_model.proofs.merging.+ordered.Given as goal

abbrev pub decreases-ordered : goal.decreases-ordered
decreases-ordered l = length l.entries.now
