use Rattle.std.proofs.Common.{◌≡◌, length}
use Rattle.propagate.proofs.Backing.{GoesBack}
use Rattle.propagate.proofs.trail.Trail.go_back.Given as goal

abbrev pub invariant-loop-self : goal.invariant-loop-self
invariant-loop-self l = record {
  back : GoesBack l.count l.initial.self l.self;
  marks : l.self.marks ≡ l.initial.self.marks;
  same : l.self.sparse.value ≡ l.initial.self.sparse.value;
}

abbrev pub decreases-loop-self : goal.decreases-loop-self
decreases-loop-self l = length l.self.changes
