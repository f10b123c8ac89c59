use Rattle.std.proofs.Common.{◌≡◌, None}
use Rattle.std.specs.List.{range_with_len}
use Rattle.base_words.specs.FirstAnswers.{first_some}
use Rattle.run_calls.specs.MultiplierTests.{unbalanced_in}
use Rattle.run_calls.proofs.multiplying.balanced.Given as goal

abbrev pub invariant-loop-node : goal.invariant-loop-node
invariant-loop-node l = first_some (unbalanced_in l.run l.multipliers) (range_with_len 0 l.node) ≡ None
