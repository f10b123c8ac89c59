use Rattle.std.proofs.Common.{◌≡◌, ◌+◌, unsigned_abs}
use Rattle.boxed_problem.specs.BoxedFacts.{column_size}
use Rattle.base_words.specs.Sums.{size_below}
use Rattle.row_prices.proofs.fitting.objective_size.Given as goal

abbrev pub invariant-loop-j : goal.invariant-loop-j
invariant-loop-j l = l.sum ≡ unsigned_abs l.problem.constant + size_below l.j (column_size l.problem.columns l.problem.line l.problem.square)
