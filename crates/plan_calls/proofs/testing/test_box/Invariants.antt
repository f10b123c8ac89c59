use Rattle.std.proofs.Common.{◌≡◌, None}
use Rattle.std.specs.List.{range_with_len}
use Rattle.base_words.specs.FirstAnswers.{first_some}
use Rattle.plan_calls.specs.PlanTests.{outside_at}
use Rattle.plan_calls.proofs.testing.test_box.Given as goal

abbrev pub invariant-loop-column : goal.invariant-loop-column
invariant-loop-column l = first_some (outside_at l.run l.plan l.scenario) (range_with_len 0 l.column) ≡ None
