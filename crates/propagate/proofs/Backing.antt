-- What a trail gives back.
use Rattle.std.proofs.Common.{arith, refl, ap, sym, ◌∙◌, ◌≡◌, ℕ, zero, suc, ◌≤◌, ◌<◌, List, [], ◌∷◌, ◌++◌, length, slice_set}
use Rattle.boxed_problem.specs.Sides.{side_at}
use Rattle.boxed_problem.specs.declared.parts.Side.{Side}
use Rattle.std.proofs.lemmas.List.{length_push}
use Rattle.propagate.specs.Spans.{place_at}
use Rattle.propagate.specs.Trails.{IsAsBefore, KeepsAllMarks, KeepsMarks, undone_to}
use Rattle.propagate.proofs.SpanLaws.{pushed_before, pushed_last}
use Rattle.propagate.specs.declared.changes.Change.{Change}
use Rattle.propagate.specs.declared.trail.Trail.{Trail}

more_long : (cs : List Change) (c : Change) → length (cs ++ c ∷ []) ≡ suc (length cs)
more_long [] c = refl
more_long (d ∷ cs) c = ap suc (more_long cs c)

-- the last change is undone first
back_more : (k : ℕ) (cs : List Change) (c : Change) (sides : List Side) → k ≤ length cs → undone_to k (cs ++ c ∷ []) sides ≡ undone_to k cs (slice_set sides c.column c.old)
back_more zero [] c sides l = refl
back_more (suc k) [] c sides l = absurd (omega arith)
back_more zero (d ∷ cs) c sides l = ap (λ s. slice_set s d.column d.old) (back_more zero cs c sides (omega arith))
back_more (suc k) (d ∷ cs) c sides l = back_more k cs c sides (omega arith)

-- the last mark gives back the sides themselves
pub back_all : (k : ℕ) (cs : List Change) (sides : List Side) → length cs ≤ k → undone_to k cs sides ≡ sides
back_all k [] sides l = refl
back_all zero (c ∷ cs) sides l = absurd (omega arith)
back_all (suc k) (c ∷ cs) sides l = back_all k cs sides (omega arith)

put_back : (box : List Side) (j : ℕ) (s : Side) → slice_set (slice_set box j s) j (side_at box j) ≡ box
put_back [] j s = refl
put_back (t ∷ box) zero s = refl
put_back (t ∷ box) (suc j) s = ap (λ l. t ∷ l) (put_back box j s)

set_past : (box : List Side) (j : ℕ) (s : Side) → length box ≤ j → slice_set box j s ≡ box
set_past [] j s l = refl
set_past (t ∷ box) zero s l = absurd (omega arith)
set_past (t ∷ box) (suc j) s l = ap (λ r. t ∷ r) (set_past box j s (omega arith))

-- with all but the first k changes undone, up to k = m, the sides are the same
pub record GoesBack (m : ℕ) (old new : Trail) : Type 0 where
  pub more : m ≤ length new.changes
  pub back : (k : ℕ) → k ≤ m → undone_to k new.changes new.sides ≡ undone_to k old.changes old.sides

-- a side that is put in and kept in mind
put_back_to : (old new : Trail) (j : ℕ) (s : Side) → new.changes ≡ old.changes ++ (record { column = j; old = side_at old.sides j }) ∷ [] → new.sides ≡ slice_set old.sides j s → GoesBack (length old.changes) old new
put_back_to old new j s e d = record {
  more = omega (arith, ap length e, more_long old.changes (record { column = j; old = side_at old.sides j }));
  back = λ k l. ap (λ cs. undone_to k cs new.sides) e
      ∙ (back_more k old.changes (record { column = j; old = side_at old.sides j }) new.sides l
      ∙ ap (λ sides. undone_to k old.changes sides) (ap (λ sides. slice_set sides j (side_at old.sides j)) d ∙ put_back old.sides j s));
}

-- a change that is undone
pub undo_back_to : (old new : Trail) (c : Change) (m : ℕ) → old.changes ≡ new.changes ++ c ∷ [] → new.sides ≡ slice_set old.sides c.column c.old → m < length old.changes → GoesBack m old new
undo_back_to old new c m e d l =
    let n = more_long new.changes c in
    let p = ap length e in
    record {
      more = omega (arith, n, p);
      back = λ k h. ap (λ sides. undone_to k new.changes sides) d
          ∙ (sym (back_more k new.changes c old.sides (omega (arith, n, p))) ∙ sym (ap (λ cs. undone_to k cs old.sides) e));
    }

back_same : (trail : Trail) (m : ℕ) → m ≤ length trail.changes → GoesBack m trail trail
back_same trail m l = record { more = l; back = λ k h. refl }

pub back_trans : (m n : ℕ) (a b c : Trail) → m ≤ n → GoesBack m a b → GoesBack n b c → GoesBack m a c
back_trans m n a b c l h k = record { more = omega (arith, k.more); back = λ i j. k.back i (omega arith) ∙ h.back i j }

-- marks that are no later than the changes that go back
marks_back : (m : ℕ) (old new : Trail) → GoesBack m old new → ((k : ℕ) → k < length old.marks → place_at old.marks k ≤ m) → new.marks ≡ old.marks → new.sparse.value ≡ old.sparse.value → KeepsAllMarks old new
marks_back m old new b older e same = record {
  count = ap length e;
  each = record {
    more = omega (arith, ap length e);
    back = λ k l. ap (λ ms. undone_to (place_at ms k) new.changes new.sides) e ∙ b.back (place_at old.marks k) (older k l);
    sparse = same;
  };
}

-- a side that is put in leaves each mark
pub put_marks : (old new : Trail) (j : ℕ) (s : Side) → new.changes ≡ old.changes ++ (record { column = j; old = side_at old.sides j }) ∷ [] → new.sides ≡ slice_set old.sides j s → new.marks ≡ old.marks → new.sparse.value ≡ old.sparse.value → KeepsAllMarks old new
put_marks old new j s e d m same = marks_back (length old.changes) old new (put_back_to old new j s e d) (λ k l. old.facts.made k l) m same

-- where all is as before each mark is
pub before_marks : (old new : Trail) → IsAsBefore old new → KeepsAllMarks old new
before_marks old new h = record {
  count = ap length h.marks;
  each = record {
    more = omega (arith, ap length h.marks);
    back = λ k l. ap (λ ms. undone_to (place_at ms k) new.changes new.sides) h.marks ∙ (ap (λ cs. undone_to (place_at old.marks k) cs new.sides) h.changes ∙ ap (λ sides. undone_to (place_at old.marks k) old.changes sides) h.sides);
    sparse = h.sparse;
  };
}

-- earlier marks, where the others are dropped
drop_marks_kept : (m : ℕ) (old new : Trail) → length new.marks ≡ m → ((k : ℕ) → k < m → place_at new.marks k ≡ place_at old.marks k) → new.sides ≡ old.sides → new.changes ≡ old.changes → new.sparse.value ≡ old.sparse.value → KeepsMarks m old new
drop_marks_kept m old new c e s d same = record {
  more = omega (arith, c);
  back = λ k l. ap (λ n. undone_to n new.changes new.sides) (e k l) ∙ (ap (λ cs. undone_to (place_at old.marks k) cs new.sides) d ∙ ap (λ sides. undone_to (place_at old.marks k) old.changes sides) s);
  sparse = same;
}

-- the earlier marks, where one more is set
mark_kept : (old new : Trail) (n : ℕ) → new.marks ≡ old.marks ++ n ∷ [] → new.sides ≡ old.sides → new.changes ≡ old.changes → new.sparse.value ≡ old.sparse.value → KeepsMarks (length old.marks) old new
mark_kept old new n e s d same = record {
  more = omega (arith, ap length e, length_push old.marks n);
  back = λ k l. ap (λ m. undone_to m new.changes new.sides) (ap (λ ms. place_at ms k) e ∙ pushed_before old.marks n 0 k l) ∙ (ap (λ cs. undone_to (place_at old.marks k) cs new.sides) d ∙ ap (λ sides. undone_to (place_at old.marks k) old.changes sides) s);
  sparse = same;
}

-- the sides under the mark that is set
pub mark_is : (changes : List Change) (sides : List Side) (marks now : List ℕ) (n : ℕ) → now ≡ marks ++ n ∷ [] → n ≡ length changes → undone_to (place_at now (length marks)) changes sides ≡ sides
mark_is changes sides marks now n e l =
    ap (λ m. undone_to m changes sides) (ap (λ ms. place_at ms (length marks)) e ∙ pushed_last marks n 0 (length marks) refl) ∙ back_all n changes sides (omega (arith, l))

pub marks_same : (trail : Trail) → KeepsAllMarks trail trail
marks_same trail = record { count = refl; each = record { more = omega arith; back = λ k h. refl; sparse = refl } }

pub marks_trans : (m n : ℕ) (a b c : Trail) → m ≤ n → KeepsMarks m a b → KeepsMarks n b c → KeepsMarks m a c
marks_trans m n a b c l h k = record { more = omega (arith, k.more); back = λ i j. k.back i (omega arith) ∙ h.back i j; sparse = k.sparse ∙ h.sparse }

pub all_marks_trans : (a b c : Trail) → KeepsAllMarks a b → KeepsAllMarks b c → KeepsAllMarks a c
all_marks_trans a b c h k = record {
  count = k.count ∙ h.count;
  each = marks_trans (length a.marks) (length b.marks) a b c (omega (arith, h.count)) h.each k.each;
}
