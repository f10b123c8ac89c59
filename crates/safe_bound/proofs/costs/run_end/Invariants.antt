use Rattle.std.proofs.Common.{◌≡◌, ℕ, ◌<◌, ◌≤◌}
use Rattle.boxed_problem.specs.BoxedFacts.{entry_at}
use Rattle.safe_bound.proofs.costs.run_end.Given as goal

abbrev pub invariant-loop-k : goal.invariant-loop-k
invariant-loop-k l = (i : ℕ) → l.first ≤ i → i < l.k → (entry_at l.entries i).column ≡ l.column
