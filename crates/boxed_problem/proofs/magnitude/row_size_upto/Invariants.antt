use Rattle.std.proofs.Common.{◌≡◌, ◌+◌, ◌≤◌, take}
use Rattle.std.specs.List.{sum_by}
use Rattle.boxed_problem.specs.BoxedFacts.{entry_size, limits_at, limits_size}
use Rattle.boxed_problem.proofs.magnitude.row_size_upto.Given as goal

abbrev pub invariant-loop-entry : goal.invariant-loop-entry
invariant-loop-entry l = record {
  sum : l.sum ≡ limits_size (limits_at l.rows l.row) + sum_by (entry_size l.columns l.row) (take l.entry-index l.entries);
  within : l.sum ≤ l.most;
}
