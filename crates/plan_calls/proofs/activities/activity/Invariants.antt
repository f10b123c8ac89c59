use Rattle.std.proofs.Common.{◌≡◌, ◌+ℤ◌, take}
use Rattle.base_words.specs.ListSums.{sum_z}
use Rattle.boxed_problem.specs.Rows.{activity}
use Rattle.sp_model.specs.Changes.{core_data}
use Rattle.sp_model.specs.Problems.{scenario_at}
use Rattle.plan_calls.specs.Moves.{move_of}
use Rattle.plan_calls.proofs.activities.activity.Given as goal

abbrev pub invariant-loop-change : goal.invariant-loop-change
invariant-loop-change l = l.sum ≡ (activity l.run.program.entries l.point l.row +ℤ sum_z (move_of (core_data l.run.program) l.point l.row) (take l.change-index (scenario_at l.run l.scenario).changes))
