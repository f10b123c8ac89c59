use Rattle.std.proofs.Common.{◌≡◌, None}
use Rattle.std.specs.List.{range_with_len}
use Rattle.base_words.specs.FirstAnswers.{first_some}
use Rattle.run_calls.specs.MultiplierTests.{unbalanced_at}
use Rattle.run_calls.proofs.multiplying.test_node.Given as goal

abbrev pub invariant-loop-column : goal.invariant-loop-column
invariant-loop-column l = first_some (unbalanced_at l.run l.multipliers l.node) (range_with_len 0 l.column) ≡ None
