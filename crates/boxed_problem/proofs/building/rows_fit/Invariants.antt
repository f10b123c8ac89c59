use Rattle.std.proofs.Common.{ℕ, ◌<◌, ◌≤◌, ◌^◌}
use Rattle.boxed_problem.specs.BoxedFacts.{row_size}
use Rattle.boxed_problem.proofs.building.rows_fit.Given as goal

abbrev pub invariant-loop-row : goal.invariant-loop-row
invariant-loop-row l = (k : ℕ) → k < l.row → row_size l.columns l.rows l.entries k ≤ 2 ^ 122
