use Rattle.std.proofs.Common.{◌≡◌, ◌≤◌, ◌<◌, ℕ, length}
use Rattle.propagate.specs.Spans.{place_at}
use Rattle.propagate.proofs.trail.Trail.drop_marks.Given as goal

abbrev pub invariant-loop-self : goal.invariant-loop-self
invariant-loop-self l = record {
  count : l.count ≤ length l.self.marks;
  earlier : (k : ℕ) → k < l.count → place_at l.self.marks k ≡ place_at l.initial.self.marks k;
  sides : l.self.sides ≡ l.initial.self.sides;
  changes : l.self.changes ≡ l.initial.self.changes;
  same : l.self.sparse.value ≡ l.initial.self.sparse.value;
}

abbrev pub decreases-loop-self : goal.decreases-loop-self
decreases-loop-self l = length l.self.marks
