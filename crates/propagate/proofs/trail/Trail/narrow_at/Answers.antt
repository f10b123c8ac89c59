use Rattle.std.proofs.Common.{refl, subst, ◌≡◌, ◌++◌, ◌∷◌, [], length, slice_set}
use Rattle.boxed_problem.specs.Sides.{side_at}
use Rattle.propagate.specs.Ranged.{AreRanges, IsInside}
use Rattle.propagate.specs.declared.sparse.Sparse.{Sparse}
use Rattle.propagate.proofs.Backing.{put_marks}
use Rattle.propagate.proofs.RangingLaws.{inside_trans, trail_put}
use Rattle.propagate.proofs.trail.Trail.narrow_at.Goals as goal

pub invariant_of-self-2 : goal.invariant_of-self-2
invariant_of-self-2 c =
    let old = c.args.self.now in
    let j = c.args.column in
    let m = old.sparse.value in
    let same : c.args.sparse.now ≡ m = c.requires.sparse in
    let changes : c.push.new.self ≡ old.changes ++ (record { column = j; old = side_at old.sides j }) ∷ [] = rw c.as_slice.ensures at c.in_ok-push.ensures.ok in
    let moved = rw c.as_slice-2.ensures at c.shift.ensures in
    let ranges = subst (λ (n : Sparse). AreRanges (length n.rows) n.entries (slice_set old.sides j c.args.side) c.shift.new.ranges) same moved in
    let inside : IsInside c.args.side (side_at m.columns j) = inside_trans c.args.side (side_at old.sides j) (side_at m.columns j) c.requires.side (old.facts.inside j) in
    rw (c.set.ensures.after, changes) (record { facts = trail_put m.columns (length m.rows) m.entries old.sides old.changes old.marks old.ranges c.shift.new.ranges j c.args.side old.facts c.requires.column inside ranges })

pub returns-clause-marks : goal.returns-clause-marks
returns-clause-marks c =
    let old = c.args.self.now in
    let changes : c.push.new.self ≡ old.changes ++ (record { column = c.args.column; old = side_at old.sides c.args.column }) ∷ [] = rw c.as_slice.ensures at c.in_ok-push.ensures.ok in
    put_marks old _ c.args.column c.args.side changes c.set.ensures.after refl refl
