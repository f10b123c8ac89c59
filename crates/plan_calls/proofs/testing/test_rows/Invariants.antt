use Rattle.std.proofs.Common.{◌≡◌, None}
use Rattle.std.specs.List.{range_with_len}
use Rattle.base_words.specs.FirstAnswers.{first_some}
use Rattle.plan_calls.specs.PlanTests.{unmet_at}
use Rattle.plan_calls.proofs.testing.test_rows.Given as goal

abbrev pub invariant-loop-row : goal.invariant-loop-row
invariant-loop-row l = first_some (unmet_at l.run l.plan l.scenario) (range_with_len 0 l.row) ≡ None
