use Rattle.std.proofs.Common.{◌≡◌, None}
use Rattle.std.specs.List.{range_with_len}
use Rattle.base_words.specs.FirstAnswers.{first_some}
use Rattle.plan_calls.specs.PlanTests.{split_at}
use Rattle.plan_calls.proofs.testing.test_node.Given as goal

abbrev pub invariant-loop-column : goal.invariant-loop-column
invariant-loop-column l = first_some (split_at l.run l.plan l.node) (range_with_len 0 l.column) ≡ None
