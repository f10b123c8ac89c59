use Rattle.std.proofs.Common.{length, ◌≡◌, ℕ, ◌+◌, ◌<◌, ◌≤◌}
use Rattle.boxed_problem.specs.BoxedFacts.{entry_at}
use Rattle.propagate.specs.Spans.{IsFirst, place_at}
use Rattle.propagate.proofs.spans.row_chains.Given as goal

abbrev pub invariant-loop-at : goal.invariant-loop-at
invariant-loop-at l = record {
  most : l.at ≤ length l.entries;
  firsts_long : length l.firsts ≡ l.rows;
  nexts_long : length l.nexts ≡ length l.entries;
  firsts : (i : ℕ) → i < l.rows → IsFirst l.entries i l.at (place_at l.firsts i);
  nexts : (k : ℕ) → l.at ≤ k → k < length l.entries → IsFirst l.entries (entry_at l.entries k).row (k + 1) (place_at l.nexts k);
}

abbrev pub decreases-loop-at : goal.decreases-loop-at
decreases-loop-at l = l.at
