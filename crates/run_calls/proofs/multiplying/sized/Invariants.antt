use Rattle.std.proofs.Common.{◌≡◌, None}
use Rattle.std.specs.List.{range_with_len}
use Rattle.base_words.specs.FirstAnswers.{first_some}
use Rattle.run_calls.specs.MultiplierTests.{too_big_in}
use Rattle.run_calls.proofs.multiplying.sized.Given as goal

abbrev pub invariant-loop-scenario : goal.invariant-loop-scenario
invariant-loop-scenario l = first_some (too_big_in l.run l.multipliers) (range_with_len 0 l.scenario) ≡ None
