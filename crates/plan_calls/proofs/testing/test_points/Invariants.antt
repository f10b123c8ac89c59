use Rattle.std.proofs.Common.{◌≡◌, None}
use Rattle.std.specs.List.{range_with_len}
use Rattle.base_words.specs.FirstAnswers.{first_some}
use Rattle.plan_calls.specs.PlanTests.{infeasible_in}
use Rattle.plan_calls.proofs.testing.test_points.Given as goal

abbrev pub invariant-loop-scenario : goal.invariant-loop-scenario
invariant-loop-scenario l = first_some (infeasible_in l.run l.plan) (range_with_len 0 l.scenario) ≡ None
