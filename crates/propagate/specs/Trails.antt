-- what a trail remembers
use Rattle.std.specs.Prelude.{◌≡◌, ℕ, zero, suc, ◌<◌, ◌≤◌, List, [], ◌∷◌, length, slice_set}
use Rattle.boxed_problem.specs.declared.parts.Side.{Side}
use Rattle.propagate.specs.Spans.{place_at}
use Rattle.propagate.specs.declared.changes.Change.{Change}
use Rattle.propagate.specs.declared.trail.Trail.{Trail}

-- sides, with all but the first k changes undone, the last one first
abbrev pub undone_to : ℕ → List Change → List Side → List Side
undone_to k [] sides = sides
undone_to zero (c ∷ cs) sides = slice_set (undone_to zero cs sides) c.column c.old
undone_to (suc k) (c ∷ cs) sides = undone_to k cs sides

-- the sides that are remembered under a mark
abbrev pub sides_at : Trail → ℕ → List Side
sides_at trail mark = undone_to (place_at trail.marks mark) trail.changes trail.sides

-- the first m marks are there as before, each with the same sides under it, and the trail is of the
-- same sparse form
pub record KeepsMarks (m : ℕ) (old new : Trail) : Type 0 where
  pub more : m ≤ length new.marks
  pub back : (k : ℕ) → k < m → sides_at new k ≡ sides_at old k
  pub sparse : new.sparse.value ≡ old.sparse.value

-- no mark came and none went, and each has the same sides under it
pub record KeepsAllMarks (old new : Trail) : Type 0 where
  pub count : length new.marks ≡ length old.marks
  pub each : KeepsMarks (length old.marks) old new

-- the sides, their changes, the marks and the ranges are as before
pub record IsAsBefore (old new : Trail) : Type 0 where
  pub sides : new.sides ≡ old.sides
  pub changes : new.changes ≡ old.changes
  pub marks : new.marks ≡ old.marks
  pub ranges : new.ranges ≡ old.ranges
  pub sparse : new.sparse.value ≡ old.sparse.value
