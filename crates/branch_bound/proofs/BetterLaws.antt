-- Sides narrowed by what the best so far leaves, under a reduced objective.
use Rattle.std.proofs.Common.{arith, refl, ap, sym, subst, ◌∙◌, ◌≡◌, ℕ, zero, suc, ◌*◌, ◌^◌, ◌<◌, ◌≤◌, Bool, true, false, nat_lt, List, length, slice_set, ℤ, pos, negsuc, ◌+ℤ◌, ◌-ℤ◌, ◌*ℤ◌, ◌≤ℤ◌, ◌<ℤ◌, Option, Some}
use Rattle.std.proofs.lemmas.Int.{ints}
use Rattle.boxed_problem.specs.Data.{Problem}
use Rattle.safe_bound.specs.Leasts.{least_part}
use Rattle.boxed_problem.specs.BoxedFacts.{column_size}
use Rattle.boxed_problem.specs.Objective.{value_of, value_part}
use Rattle.boxed_problem.specs.Optimum.{improves, meets_all}
use Rattle.boxed_problem.specs.Points.{InBox}
use Rattle.boxed_problem.specs.Sides.{Within, side_at}
use Rattle.base_words.specs.Sums.{number_at, sum_below}
use Rattle.boxed_problem.specs.declared.parts.Best.{Best}
use Rattle.boxed_problem.specs.declared.parts.Side.{Side}
use Rattle.boxed_problem.proofs.FixingLaws.{set_within}
use Rattle.boxed_problem.proofs.Narrower.{column_size-le, column_size-within}
use Rattle.safe_bound.proofs.LeastLaws.{least_on-holds, least_on-le}
use Rattle.base_words.proofs.SumBounds.{sum_below-mono}
use Rattle.boxed_problem.proofs.Listing.{in_on}
use Rattle.boxed_problem.proofs.Lying.{Lies, filled_at, on_lies, within_at, within_self, within_trans}
use Rattle.base_words.proofs.Comparisons.{below_from_test}
use Rattle.base_words.proofs.Products.{times_order}
use Rattle.branch_bound.specs.Bettering.{IsMost, IsSlack, KeepsSlack, Narrows}
use Rattle.branch_bound.specs.ValueGrid.{Apart, IsGrid}
use Rattle.branch_bound.specs.Narrowing.{NoneBelow}
use Rattle.propagate.specs.SparseParts.{IsOf}
use Rattle.propagate.specs.Tightening.{HoldsNone, HoldsSame}
use Rattle.propagate.specs.Trails.{KeepsAllMarks}
use Rattle.propagate.specs.declared.sparse.Sparse.{Sparse}
use Rattle.propagate.specs.declared.trail.Trail.{Trail}
use Rattle.propagate.proofs.Backing.{all_marks_trans, marks_same}
use Rattle.propagate.proofs.Setting.{in_set}
use Rattle.branch_bound.proofs.Descending.{in_wider}
use Rattle.branch_bound.proofs.Steps.{keeps_trans}
use Rattle.safe_bound.specs.ReducedOf.{IsUnder, reduced_total}
use Rattle.safe_bound.specs.declared.reduced.Reduced.{Reduced}
use Rattle.propagate.proofs.TightLaws.{trail_filled, trail_within}

pub narrows_self : (b : Problem) (best : Option Best) (t : Trail) → Narrows b best t t
narrows_self b best t = record { within = within_self t.sides (trail_filled t); keeps = λ x i m d. i; marks = marks_same t }

pub narrows_trans : (b : Problem) (best : Option Best) (x y z : Trail) → Narrows b best x y → Narrows b best y z → Narrows b best x z
narrows_trans b best x y z h k = record {
  within = within_trans z.sides y.sides x.sides k.within h.within;
  keeps = keeps_trans b best x.sides y.sides z.sides h.keeps k.keeps;
  marks = all_marks_trans x y z h.marks k.marks;
}

pub narrows_rows : (b : Problem) (best : Option Best) (old new : Trail) → HoldsSame b old.sides new.sides → KeepsAllMarks old new → Narrows b best old new
narrows_rows b best old new h k = record { within = h.within; keeps = λ x i m d. h.keeps x i m; marks = k }

-- where no point meets the rows nothing is below the best
pub holds_none : (b : Problem) (best : Option Best) (sides : List Side) → HoldsNone b sides → NoneBelow b best sides
holds_none b best sides h x i m = absurd (let f : true ≡ false = sym m ∙ h x i in cc)

-- of two sums with parts in order, those of one place are no further apart than the sums
one_below : (n : ℕ) (f g : ℕ → ℤ) → ((k : ℕ) → f k ≤ℤ g k) → (j : ℕ) → j < n → (sum_below n f +ℤ (g j -ℤ f j)) ≤ℤ sum_below n g
one_below zero f g h j l = absurd (omega arith)
one_below (suc n) f g h j l = by_place (nat_lt j n) refl (λ k. one_below n f g h j k)
  where
    by_place : (t : Bool) → nat_lt j n ≡ t → (j < n → (sum_below n f +ℤ (g j -ℤ f j)) ≤ℤ sum_below n g) → (sum_below (suc n) f +ℤ (g j -ℤ f j)) ≤ℤ sum_below (suc n) g
    by_place true e r = let k : j < n = grind arith in let s = r k in let p = h n in omega (arith, ints, s, p)
    by_place false e r =
        let k : j ≡ n = grind arith in
        let s = sum_below-mono n f g (λ j m. h j) in
        let p = ap f k in
        let q = ap g k in
        omega (arith, ints, s, p, q)

-- what a column adds to the reduced objective at a point is at most the slack above its least
column_slack : (b : Problem) (r : Reduced) (best : Option Best) (sides : List Side) (x : List ℤ) (j : ℕ) (slack : ℤ) → IsUnder b r → j < length r.columns → InBox b.columns x → meets_all b x ≡ true → Lies sides x →
    improves (value_of b x) best ≡ true → IsSlack b best r.scale (reduced_total r sides) slack → (value_part r.line r.square x j -ℤ least_part r.line r.square sides j) ≤ℤ slack
column_slack b r best sides x j slack u l i m lies d s =
    let one' = one_below (length r.columns) (least_part r.line r.square sides) (value_part r.line r.square x)
    (λ k. let p = lies k in least_on-le (number_at r.line k) (number_at r.square k) (side_at sides k) (number_at x k) p.0 p.1) j l in
    let most = s.most x i d in
    omega (arith, ints, one', most, u.below x i m)

-- a column cut by the slack
pub column_narrows : (b : Problem) (r : Reduced) (best : Option Best) (m : Sparse) (old new : Trail) (j : ℕ) (slack : ℤ) (s : Side) → IsUnder b r → IsOf b m → m ≡ old.sparse.value → j < length r.columns →
    IsSlack b best r.scale (reduced_total r old.sides) slack → KeepsSlack (number_at r.line j) (number_at r.square j) (side_at old.sides j) slack s → new.sides ≡ slice_set old.sides j s → KeepsAllMarks old new → Narrows b best old new
column_narrows b r best m old new j slack s u o same l h k e marks =
    let w = trail_within b m old same o in
    let n : j < length old.sides = omega (arith, l, w.long, ap length u.columns) in
    record {
      within = subst (λ box. Within box old.sides) (sym e) (set_within old.sides j s n k.inside.lower k.inside.filled k.inside.upper (trail_filled old));
      keeps = λ x i met d.
          let lies = on_lies old.sides x (in_on old.sides x i) in
          let slackened = column_slack b r best old.sides x j slack u l (in_wider old.sides b.columns x w i) met lies d h in
          let kept = k.keeps (number_at x j) (i.lower j n) (i.upper j n) slackened in
          subst (λ box. InBox box x) (sym e) (in_set old.sides j s x n kept.0 kept.1 i);
      marks = marks;
    }

-- narrower sides have no lower total
total_rises : (r : Reduced) (inner outer : List Side) → Within inner outer → reduced_total r outer ≤ℤ reduced_total r inner
total_rises r inner outer w =
    let p = sum_below-mono (length r.columns) (least_part r.line r.square outer) (least_part r.line r.square inner)
    (λ j m. let a = within_at inner outer w j in
    least_on-holds (λ z. least_part r.line r.square outer j ≤ℤ z) (number_at r.line j) (number_at r.square j) (side_at inner j) (filled_at inner w.filled j)
    (λ x l u. least_on-le (number_at r.line j) (number_at r.square j) (side_at outer j) x (omega (arith, ints, a.0, l)) (omega (arith, ints, a.1, u)))) in
    omega (arith, ints, p)

-- a slack stays one over narrower sides
pub slack_stays : (b : Problem) (r : Reduced) (best : Option Best) (inner outer : List Side) (slack : ℤ) → Within inner outer → IsSlack b best r.scale (reduced_total r outer) slack → IsSlack b best r.scale (reduced_total r inner) slack
slack_stays b r best inner outer slack w s = record {
  least_slack = s.least_slack;
  most = λ x i d. let p = total_rises r inner outer w in let m = s.most x i d in omega (arith, ints, p, m);
}

-- what is left between the most and a total is a slack
pub slack_is : (b : Problem) (best : Option Best) (scale total most slack : ℤ) → IsMost b best scale most → total ≤ℤ most → slack ≡ (most -ℤ total) → IsSlack b best scale total slack
slack_is b best scale total most slack h l e = record { least_slack = omega (arith, ints, e, l); most = λ x i d. let p = h x i d in omega (arith, ints, e, p) }

-- the scale times the greatest number of the grid below the best is the most
pub most_is : (b : Problem) (best : Best) (base step scale below most : ℤ) → pos 1 ≤ℤ scale → IsGrid b base step → ((v : ℤ) → Apart step v base → v <ℤ best.value → v ≤ℤ below) → most ≡ (scale *ℤ below) → IsMost b (Some best) scale most
most_is b best base step (pos n) below most p g h e x i d =
    let l = below_from_test (value_of b x) best.value d in
    let o = times_order n (value_of b x) below (h (value_of b x) (g.apart x i) l) in
    omega (arith, ints, o, e)
most_is b best base step (negsuc n) below most p g h e x i d = absurd (omega (arith, ints))

-- where the total is above the most nothing is below the best
pub total_none : (b : Problem) (r : Reduced) (best : Option Best) (sides : List Side) (most : ℤ) → IsUnder b r → Within sides b.columns → IsMost b best r.scale most → most <ℤ reduced_total r sides → NoneBelow b best sides
total_none b r best sides most u w h l x i m = by_test (improves (value_of b x) best) refl
  where
    by_test : (t : Bool) → improves (value_of b x) best ≡ t → t ≡ false
    by_test true d =
        let lies = on_lies sides x (in_on sides x i) in
        let p = sum_below-mono (length r.columns) (least_part r.line r.square sides) (value_part r.line r.square x)
        (λ j l. let k = lies j in least_on-le (number_at r.line j) (number_at r.square j) (side_at sides j) (number_at x j) k.0 k.1) in
        let wide = in_wider sides b.columns x w i in
        let q = u.below x wide m in
        let o = h x wide d in
        absurd (omega (arith, ints, p, q, o))
    by_test false d = refl

-- what a column adds over its side fits
pub column_fits : (r : Reduced) (sides : List Side) (j : ℕ) → Within sides r.columns → j < length r.columns → column_size sides r.line r.square j ≤ 2 ^ 125
column_fits r sides j w l =
    let inner = column_size-within sides r.columns r.line r.square j w in
    let outer = column_size-le r.columns r.constant r.line r.square j l in
    omega (arith, inner, outer, r.facts.fits)

-- the sides of a trail lie in those of a reduced problem
pub reduced_within : (b : Problem) (r : Reduced) (m : Sparse) (t : Trail) → IsUnder b r → IsOf b m → m ≡ t.sparse.value → Within t.sides r.columns
reduced_within b r m t u o same = subst (λ box. Within t.sides box) (sym u.columns) (trail_within b m t same o)
