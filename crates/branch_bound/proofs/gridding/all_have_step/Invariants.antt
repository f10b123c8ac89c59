use Rattle.std.proofs.Common.{ℕ, ◌<◌}
use Rattle.boxed_problem.specs.Sides.{side_at}
use Rattle.base_words.specs.Sums.{number_at}
use Rattle.branch_bound.specs.ValueGrid.{HasStep}
use Rattle.branch_bound.proofs.gridding.all_have_step.Given as goal

abbrev pub invariant-loop-j : goal.invariant-loop-j
invariant-loop-j l = (j : ℕ) → j < l.j → HasStep l.step (number_at l.problem.line j) (number_at l.problem.square j) (side_at l.problem.columns j)
