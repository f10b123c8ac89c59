use Rattle.std.proofs.Common.{◌≡◌, ◌+ℤ◌}
use Rattle.safe_bound.specs.Leasts.{least_part}
use Rattle.base_words.specs.Sums.{sum_below}
use Rattle.safe_bound.proofs.least_values.least_value.Given as goal

abbrev pub invariant-loop-j : goal.invariant-loop-j
invariant-loop-j l = l.sum ≡ (l.problem.constant +ℤ sum_below l.j (least_part l.problem.line l.problem.square l.sides))
