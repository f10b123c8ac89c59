use Rattle.std.proofs.Common.{length, ◌-◌, ℕ, ◌+◌, ◌<◌, ◌≤◌}
use Rattle.boxed_problem.specs.BoxedFacts.{entry_at}
use Rattle.propagate.proofs.spans.next_border.Given as goal

abbrev pub invariant-loop-at : goal.invariant-loop-at
invariant-loop-at l = record {
  most : l.at ≤ length l.entries;
  before : (k : ℕ) → k < l.at → (entry_at l.entries k).column < l.j + 1;
}

abbrev pub decreases-loop-at : goal.decreases-loop-at
decreases-loop-at l = length l.entries - l.at
