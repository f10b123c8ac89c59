use Rattle.std.proofs.Common.{◌≡◌, ◌+ℤ◌}
use Rattle.boxed_problem.specs.Objective.{value_part}
use Rattle.base_words.specs.Sums.{sum_below}
use Rattle.boxed_problem.proofs.problem.Boxed.value.Given as goal

abbrev pub invariant-loop-j : goal.invariant-loop-j
invariant-loop-j l = l.sum ≡ (l.self.constant +ℤ sum_below l.j (value_part l.self.line l.self.square l.point))
