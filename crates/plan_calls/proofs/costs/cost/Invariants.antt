use Rattle.std.proofs.Common.{◌≡◌}
use Rattle.base_words.specs.Sums.{sum_below}
use Rattle.boxed_problem.specs.Objective.{value_of}
use Rattle.sp_model.specs.Plans.{point_of}
use Rattle.sp_model.specs.Problems.{problem_in}
use Rattle.plan_calls.proofs.costs.cost.Given as goal

abbrev pub invariant-loop-scenario : goal.invariant-loop-scenario
invariant-loop-scenario l = l.sum ≡ sum_below l.scenario (λ s. value_of (problem_in l.run s) (point_of l.plan s))
