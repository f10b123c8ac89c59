use Rattle.std.proofs.Common.{◌≡◌, ◌+ℤ◌}
use Rattle.base_words.specs.Sums.{sum_below}
use Rattle.safe_bound.specs.Leasts.{least_part}
use Rattle.safe_bound.proofs.reducing.total_from.Given as goal

abbrev pub invariant-loop-j : goal.invariant-loop-j
invariant-loop-j l = l.total ≡ (l.reduced.constant +ℤ sum_below l.j (least_part l.reduced.line l.reduced.square l.sides))
