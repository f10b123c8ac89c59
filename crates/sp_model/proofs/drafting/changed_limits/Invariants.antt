use Rattle.std.proofs.Common.{◌≡◌, take}
use Rattle.std.specs.List.{fold}
use Rattle.sp_model.specs.Changes.{core_data}
use Rattle.sp_model.specs.Drafts.{with_limits}
use Rattle.sp_model.proofs.drafting.changed_limits.Given as goal

abbrev pub invariant-loop-change : goal.invariant-loop-change
invariant-loop-change l = l.limits.items ≡ fold with_limits (core_data l.program).limits (take l.change-index l.changes)
