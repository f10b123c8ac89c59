use Rattle.std.proofs.Common.{◌≡◌, take}
use Rattle.std.specs.List.{fold}
use Rattle.sp_model.specs.Changes.{core_data}
use Rattle.sp_model.specs.Drafts.{with_cost}
use Rattle.sp_model.proofs.drafting.changed_costs.Given as goal

abbrev pub invariant-loop-change : goal.invariant-loop-change
invariant-loop-change l = l.costs.items ≡ fold with_cost (core_data l.program).costs (take l.change-index l.changes)
