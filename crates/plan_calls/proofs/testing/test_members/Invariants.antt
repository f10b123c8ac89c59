use Rattle.std.proofs.Common.{◌≡◌, None, take}
use Rattle.base_words.specs.FirstAnswers.{first_some}
use Rattle.plan_calls.specs.PlanTests.{differs_at, value_in}
use Rattle.plan_calls.proofs.testing.test_members.Given as goal

abbrev pub invariant-loop-scenario : goal.invariant-loop-scenario
invariant-loop-scenario l = first_some (differs_at l.plan l.node l.column (value_in l.plan l.beside l.column)) (take l.scenario-index l.members) ≡ None
