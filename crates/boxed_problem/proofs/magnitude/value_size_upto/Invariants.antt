use Rattle.std.proofs.Common.{◌≡◌, ◌+◌, ◌≤◌, unsigned_abs}
use Rattle.boxed_problem.specs.BoxedFacts.{column_size}
use Rattle.base_words.specs.Sums.{size_below}
use Rattle.boxed_problem.proofs.magnitude.value_size_upto.Given as goal

abbrev pub invariant-loop-j : goal.invariant-loop-j
invariant-loop-j l = record {
  sum : l.sum ≡ unsigned_abs l.constant + size_below l.j (column_size l.columns l.line l.square);
  within : l.sum ≤ l.most;
}
