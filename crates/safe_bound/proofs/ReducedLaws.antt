-- what a reduced problem gives is what the prices give

use Rattle.std.proofs.Common.{arith, refl, ap, sym, subst, ◌∙◌, ◌≡◌, ℕ, ◌+◌, ◌<◌, Bool, true, false, nat_lt, List, length, get_or, set, ℤ, pos, ◌≤ℤ◌}
use Rattle.std.proofs.lemmas.Int.{ints}
use Rattle.std.proofs.lemmas.Grind.{get_or-set_at}
use Rattle.std.proofs.lemmas.List.{get_or-set_other}
use Rattle.std.proofs.lemmas.List.Elements.{All-from_get_or}
use Rattle.std.specs.List.{All}
use Rattle.boxed_problem.specs.Data.{Problem}
use Rattle.boxed_problem.specs.BoxedFacts.{value_size}
use Rattle.boxed_problem.specs.PriceFit.{FitsPrices}
use Rattle.boxed_problem.specs.Sides.{Within, side_at}
use Rattle.base_words.specs.Sums.{number_at, sum_below}
use Rattle.base_words.proofs.ListSumsByNumber.{sum_below-same}
use Rattle.boxed_problem.specs.declared.parts.Prices.{Prices}
use Rattle.boxed_problem.specs.declared.parts.Side.{Side}
use Rattle.safe_bound.specs.Leasts.{least_on, least_part}
use Rattle.safe_bound.specs.PriceBound.{price_total, reduced_least}
use Rattle.safe_bound.specs.ReducedOf.{IsReduced, reduced_total}
use Rattle.safe_bound.specs.Reducing.{IsReducedData, kept_cost, kept_square, reduced_constant}
use Rattle.safe_bound.specs.declared.reduced.Reduced.{Reduced}
use Rattle.safe_bound.proofs.PriceSizes.{Placed, kept_least, kept_square-positive, kept_value}

-- the total of a reduced problem is that of the prices
pub reduced_total-is : (b : Problem) (prices : Prices) (r : Reduced) (box : List Side) → IsReduced b prices r → Within box r.columns → reduced_total r box ≡ price_total b prices box
reduced_total-is b prices r box h w =
    let n = length b.columns in
    let inside : Within box b.columns = subst (λ cs. Within box cs) h.columns w in
    let long = ap (λ (cs : List Side). sum_below (length cs) (least_part r.line r.square box)) h.columns in
    let same = sum_below-same n (least_part r.line r.square box) (reduced_least b prices box)
    (λ j l. ap (λ z. least_on z (number_at r.square j) (side_at box j)) (h.line j l)
    ∙ (ap (λ z. least_on (kept_cost b prices j) z (side_at box j)) (h.square j l) ∙ kept_least b prices box j inside)) in
    omega (arith, ints, h.constant, long, same)

-- a list whose first numbers are given, with one more put in
pub one_more : (xs ys : List ℤ) (f : ℕ → ℤ) (j n : ℕ) (v : ℤ) → ys ≡ set xs j v → length xs ≡ n → j < n → v ≡ f j → ((k : ℕ) → k < j → number_at xs k ≡ f k) → (k : ℕ) → k < j + 1 → number_at ys k ≡ f k
one_more xs ys f j n v e d l p h k m = ap (λ zs. number_at zs k) e ∙ by_place (nat_lt k j) refl
  where
    by_place : (t : Bool) → nat_lt k j ≡ t → number_at (set xs j v) k ≡ f k
    by_place true q =
        let less : k < j = grind arith in
        get_or-set_other xs j k v (pos 0) (λ s. absurd (omega (arith, less, s))) ∙ h k less
    by_place false q =
        let same : k ≡ j = grind arith in
        get_or-set_at xs j k v (pos 0) same (omega (arith, l, d)) ∙ (p ∙ ap f (sym same))

-- the facts of the reduced problem
pub reduced_data : (b : Problem) (prices : Prices) (columns : List Side) (line square : List ℤ) (constant : ℤ) → Placed b → FitsPrices b prices → length b.square ≡ length b.columns → All (λ q. pos 0 ≤ℤ q) b.square → columns ≡ b.columns →
    length line ≡ length b.columns → length square ≡ length b.columns → ((j : ℕ) → j < length b.columns → number_at line j ≡ kept_cost b prices j) → ((j : ℕ) → j < length b.columns → number_at square j ≡ kept_square b prices j) →
    constant ≡ reduced_constant b prices → IsReducedData columns prices.scale constant line square
reduced_data b prices columns line square constant places f long convex e p q h k c = record {
  lines = omega (arith, p, ap length e);
  squares = omega (arith, q, ap length e);
  positive = f.scale;
  convex = All-from_get_or (λ z. pos 0 ≤ℤ z) square (pos 0) each;
  fits =
      let v = kept_value b prices line square places h k in
      let s = ap (λ cs. value_size cs constant line square) e in
      let t = ap (λ z. value_size b.columns z line square) c in
      omega (arith, v, s, t, f.size);
}
  where
    each : (i : ℕ) → i < length square → pos 0 ≤ℤ get_or square i (pos 0)
    each i l =
        let m : i < length b.square = omega (arith, l, q, long) in
        let r = kept_square-positive b prices i f.scale (convex i (pos 0) m) in
        omega (arith, ints, r, k i (omega (arith, l, q)))
