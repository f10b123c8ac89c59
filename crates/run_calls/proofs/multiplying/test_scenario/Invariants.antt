use Rattle.std.proofs.Common.{◌≡◌, None}
use Rattle.std.specs.List.{range_with_len}
use Rattle.base_words.specs.FirstAnswers.{first_some}
use Rattle.run_calls.specs.MultiplierTests.{too_big_at}
use Rattle.run_calls.proofs.multiplying.test_scenario.Given as goal

abbrev pub invariant-loop-column : goal.invariant-loop-column
invariant-loop-column l = first_some (too_big_at l.run l.multipliers l.scenario) (range_with_len 0 l.column) ≡ None
