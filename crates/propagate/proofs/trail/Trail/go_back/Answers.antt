use Rattle.std.proofs.Common.{arith, subst, sym, ap, ◌∙◌, ◌≡◌, ◌++◌, ◌∷◌, [], ◌<◌, ℕ, length, slice_set}
use Rattle.propagate.specs.Ranged.{AreRanges}
use Rattle.propagate.specs.Spans.{place_at}
use Rattle.propagate.specs.declared.sparse.Sparse.{Sparse}
use Rattle.propagate.proofs.Backing.{back_all, back_trans, undo_back_to}
use Rattle.propagate.proofs.RangingLaws.{trail_undone}
use Rattle.propagate.proofs.trail.Trail.go_back.Goals as goal

pub invariant_of-self-in-Some : goal.invariant_of-self-in-Some
invariant_of-self-in-Some c =
    let old = c.loop-self.self in
    let m = old.sparse.value in
    let change = c.in-Some.change in
    let popped : old.changes ≡ c.pop.new.self ++ change ∷ [] = c.in-Some.ensures in
    let same : c.args.sparse.now ≡ m = c.requires.sparse ∙ sym c.loop-self.invariant.same in
    let moved = rw c.as_slice.ensures at c.shift.ensures in
    let ranges = subst (λ (n : Sparse). AreRanges (length n.rows) n.entries (slice_set old.sides change.column change.old) c.shift.new.ranges) same moved in
    let long = ap length c.loop-self.invariant.marks in
    let older : (k : ℕ) → k < length old.marks → place_at old.marks k < length old.changes = λ k l. omega (arith, c.requires.marks k (omega (arith, l, long)), ap (λ ms. place_at ms k) c.loop-self.invariant.marks, c.loop-self-test.true, c.len.ensures) in
    rw c.set.ensures.after (record { facts = trail_undone m.columns (length m.rows) m.entries old.sides old.changes c.pop.new.self change old.marks old.ranges c.shift.new.ranges popped old.facts older ranges })

pub loop-self-preserved-in-Some : goal.loop-self-preserved-in-Some
loop-self-preserved-in-Some c =
    let old = c.loop-self.self in
    let popped : old.changes ≡ c.pop.new.self ++ c.in-Some.change ∷ [] = c.in-Some.ensures in
    let l : c.args.count < length old.changes = omega (arith, c.loop-self-test.true, c.len.ensures) in
    record {
      back = back_trans c.args.count c.args.count c.args.self.now old _ (omega arith) c.loop-self.invariant.back (undo_back_to old _ c.in-Some.change c.args.count popped c.set.ensures.after l);
      marks = c.loop-self.invariant.marks;
      same = c.loop-self.invariant.same;
    }

pub returns-clause-sides : goal.returns-clause-sides
returns-clause-sides c =
    let trail = c.loop-self.self in
    sym (back_all c.args.count trail.changes trail.sides (omega (arith, c.loop-self-test.false, c.len.ensures))) ∙ c.loop-self.invariant.back.back c.args.count (omega arith)
