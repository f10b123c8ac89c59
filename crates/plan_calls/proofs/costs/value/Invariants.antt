use Rattle.std.proofs.Common.{◌≡◌, ◌+ℤ◌}
use Rattle.base_words.specs.Sums.{sum_below}
use Rattle.boxed_problem.specs.Objective.{value_part}
use Rattle.sp_model.specs.Problems.{problem_in}
use Rattle.plan_calls.proofs.costs.value.Given as goal

abbrev pub invariant-loop-column : goal.invariant-loop-column
invariant-loop-column l = l.sum ≡ ((problem_in l.run l.scenario).constant +ℤ sum_below l.column (value_part (problem_in l.run l.scenario).line (problem_in l.run l.scenario).square l.point))
