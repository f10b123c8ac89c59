-- Sides with another one put in.
use Rattle.std.proofs.Common.{arith, ap, sym, subst, inl, inr, ◌∙◌, ◌≡◌, ◌⊎◌, ℕ, zero, suc, ◌<◌, List, [], ◌∷◌, length, slice_set, ℤ, ◌≤ℤ◌}
use Rattle.std.proofs.lemmas.Int.{ints}
use Rattle.boxed_problem.specs.Points.{InBox}
use Rattle.boxed_problem.specs.Sides.{Filled, Within, no_side, side_at}
use Rattle.base_words.specs.Sums.{number_at}
use Rattle.boxed_problem.specs.declared.parts.Side.{Side}
use Rattle.propagate.proofs.SpanLaws.{item_not_set, item_set, items_long, same_or_not}

set_filled : (box : List Side) (j : ℕ) (s : Side) → Filled box → s.lower ≤ℤ s.upper → Filled (slice_set box j s)
set_filled [] j s f l = tt
set_filled (t ∷ box) zero s f l = (l, f.1)
set_filled (t ∷ box) (suc j) s f l = (f.0, set_filled box j s f.1 l)

-- a side put into both
pub set_both : (inner outer : List Side) (j : ℕ) (s t : Side) → j < length outer → t.lower ≤ℤ s.lower → s.lower ≤ℤ s.upper → s.upper ≤ℤ t.upper → Within inner outer → Within (slice_set inner j s) (slice_set outer j t)
set_both inner outer j s t l low fill up w = record {
  long = items_long inner j s ∙ (w.long ∙ sym (items_long outer j t));
  filled = set_filled inner j s w.filled fill;
  lower = λ k m. (by_place k (omega (arith, items_long outer j t)) (same_or_not k j)).0;
  upper = λ k m. (by_place k (omega (arith, items_long outer j t)) (same_or_not k j)).1;
}
  where
    by_place : (k : ℕ) → k < length outer → (k ≡ j) ⊎ (k ≡ j → ⊥) → ((side_at (slice_set outer j t) k).lower ≤ℤ (side_at (slice_set inner j s) k).lower) × ((side_at (slice_set inner j s) k).upper ≤ℤ (side_at (slice_set outer j t) k).upper)
    by_place k m (inl e) =
        subst (λ i. ((side_at (slice_set outer j t) i).lower ≤ℤ (side_at (slice_set inner j s) i).lower) × ((side_at (slice_set inner j s) i).upper ≤ℤ (side_at (slice_set outer j t) i).upper)) (sym e)
        (let p = item_set outer j t no_side l in let q = item_set inner j s no_side (omega (arith, w.long)) in
        (omega (arith, ints, ap (λ (z : Side). z.lower) p, ap (λ (z : Side). z.lower) q, low), omega (arith, ints, ap (λ (z : Side). z.upper) p, ap (λ (z : Side). z.upper) q, up)))
    by_place k m (inr n) =
        let p = item_not_set outer j k t no_side n in
        let q = item_not_set inner j k s no_side n in
        let a = w.lower k m in
        let c = w.upper k m in
        (omega (arith, ints, ap (λ (z : Side). z.lower) p, ap (λ (z : Side). z.lower) q, a), omega (arith, ints, ap (λ (z : Side). z.upper) p, ap (λ (z : Side). z.upper) q, c))

-- a side put into the outer one, that still holds the inner one's
pub set_outer : (inner outer : List Side) (j : ℕ) (t : Side) → j < length outer → t.lower ≤ℤ (side_at inner j).lower → (side_at inner j).upper ≤ℤ t.upper → Within inner outer → Within inner (slice_set outer j t)
set_outer inner outer j t l low up w = record {
  long = w.long ∙ sym (items_long outer j t);
  filled = w.filled;
  lower = λ k m. (by_place k (omega (arith, items_long outer j t)) (same_or_not k j)).0;
  upper = λ k m. (by_place k (omega (arith, items_long outer j t)) (same_or_not k j)).1;
}
  where
    by_place : (k : ℕ) → k < length outer → (k ≡ j) ⊎ (k ≡ j → ⊥) → ((side_at (slice_set outer j t) k).lower ≤ℤ (side_at inner k).lower) × ((side_at inner k).upper ≤ℤ (side_at (slice_set outer j t) k).upper)
    by_place k m (inl e) =
        subst (λ i. ((side_at (slice_set outer j t) i).lower ≤ℤ (side_at inner i).lower) × ((side_at inner i).upper ≤ℤ (side_at (slice_set outer j t) i).upper)) (sym e)
        (let p = item_set outer j t no_side l in
        (omega (arith, ints, ap (λ (z : Side). z.lower) p, low), omega (arith, ints, ap (λ (z : Side). z.upper) p, up)))
    by_place k m (inr n) =
        let p = item_not_set outer j k t no_side n in
        let a = w.lower k m in
        let c = w.upper k m in
        (omega (arith, ints, ap (λ (z : Side). z.lower) p, a), omega (arith, ints, ap (λ (z : Side). z.upper) p, c))

-- a point of the sides whose value at the column lies on the new side
pub in_set : (box : List Side) (j : ℕ) (s : Side) (x : List ℤ) → j < length box → s.lower ≤ℤ number_at x j → number_at x j ≤ℤ s.upper → InBox box x → InBox (slice_set box j s) x
in_set box j s x l low up h = record {
  long = h.long ∙ sym (items_long box j s);
  lower = λ k m. (by_place k (omega (arith, items_long box j s)) (same_or_not k j)).0;
  upper = λ k m. (by_place k (omega (arith, items_long box j s)) (same_or_not k j)).1;
}
  where
    by_place : (k : ℕ) → k < length box → (k ≡ j) ⊎ (k ≡ j → ⊥) → ((side_at (slice_set box j s) k).lower ≤ℤ number_at x k) × (number_at x k ≤ℤ (side_at (slice_set box j s) k).upper)
    by_place k m (inl e) =
        subst (λ i. ((side_at (slice_set box j s) i).lower ≤ℤ number_at x i) × (number_at x i ≤ℤ (side_at (slice_set box j s) i).upper)) (sym e)
        (let p = item_set box j s no_side l in
        (omega (arith, ints, ap (λ (z : Side). z.lower) p, low), omega (arith, ints, ap (λ (z : Side). z.upper) p, up)))
    by_place k m (inr n) =
        let p = item_not_set box j k s no_side n in
        let a = h.lower k m in
        let c = h.upper k m in
        (omega (arith, ints, ap (λ (z : Side). z.lower) p, a), omega (arith, ints, ap (λ (z : Side). z.upper) p, c))

-- a point of a box with another side lies on that one
pub set_in : (box : List Side) (j : ℕ) (s : Side) (x : List ℤ) → j < length box → InBox (slice_set box j s) x → (s.lower ≤ℤ number_at x j) × (number_at x j ≤ℤ s.upper)
set_in box j s x l h =
    let p = item_set box j s no_side l in
    let m : j < length (slice_set box j s) = omega (arith, items_long box j s) in
    let a = h.lower j m in
    let c = h.upper j m in
    (omega (arith, ints, ap (λ (z : Side). z.lower) p, a), omega (arith, ints, ap (λ (z : Side). z.upper) p, c))
