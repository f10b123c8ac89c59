use Rattle.std.proofs.Common.{◌≡◌, map, take}
use Rattle.std.specs.List.{fold}
use Rattle.sp_model.specs.Changes.{limits_of}
use Rattle.sp_model.specs.Drafts.{with_limits}
use Rattle.text_lines.proofs.limits.changed_limits.Given as goal

abbrev pub invariant-loop-change : goal.invariant-loop-change
invariant-loop-change l = l.limits.items ≡ fold with_limits (map limits_of l.program.rows) (take l.change-index l.scenario.changes)
