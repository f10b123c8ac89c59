use Rattle.std.proofs.Common.{◌≡◌, take}
use Rattle.boxed_problem.specs.Rows.{activity}
use Rattle.plan_calls.proofs.activities.core_activity.Given as goal

abbrev pub invariant-loop-entry : goal.invariant-loop-entry
invariant-loop-entry l = l.sum ≡ activity (take l.entry-index l.run.program.entries) l.point l.row
