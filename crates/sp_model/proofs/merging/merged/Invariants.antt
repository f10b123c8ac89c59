use Rattle.std.proofs.Common.{◌≡◌, ◌≤◌, ◌++◌, drop, length}
use Rattle.sp_model.specs.Changes.{put_entries}
use Rattle.sp_model.proofs.merging.merged.Given as goal

abbrev pub invariant-loop-entry : goal.invariant-loop-entry
invariant-loop-entry l = (l.at ≤ length l.under) × (l.all.items ++ put_entries (drop l.at l.under) (drop l.entry-index l.over) ≡ put_entries l.under l.over)
