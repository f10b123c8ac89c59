-- Sides cut by a slack.
use Rattle.std.proofs.Common.{arith, refl, ap, ◌∙◌, ◌≡◌, zero, suc, ◌+◌, ◌*◌, ◌^◌, ◌<◌, ◌≤◌, max, Bool, true, false, ℤ, pos, negsuc, ◌+ℤ◌, ◌-ℤ◌, ◌*ℤ◌, ◌≤ℤ◌, ◌<ℤ◌, int_lt, neg_ℤ, unsigned_abs, FitsSigned, w64}
use Rattle.std.proofs.lemmas.Int.{ints, clamps, unsigned_abs-mul}
use Rattle.std.proofs.Math.IntN.{*ℤ_comm}
use Rattle.std.proofs.Math.Nat.{mul-le-mul_left}
use Rattle.std.specs.Int.{w128, int_div_euclid}
use Rattle.boxed_problem.specs.Sides.{reach}
use Rattle.boxed_problem.specs.declared.parts.Side.{Side}
use Rattle.base_words.proofs.Comparisons.{above_from_test, below_from_test}
use Rattle.base_words.proofs.Magnitudes.{fits_from_abs}
use Rattle.base_words.proofs.Quotients.{floor_is}
use Rattle.base_words.proofs.Products.{sum_times, times_one, times_order, times_sum, times_turn, zero_times}
use Rattle.boxed_problem.proofs.Narrower.{numbers_small}
use Rattle.propagate.specs.Ranged.{high_end, low_end}
use Rattle.propagate.specs.Tightening.{IsSteps}

-- the quotient is how many steps a slack allows
pub steps_are : (size slack extent : ℤ) → pos 0 <ℤ size → pos 0 ≤ℤ slack → slack <ℤ (size *ℤ extent) → IsSteps size slack extent (int_div_euclid slack size)
steps_are (negsuc b) slack extent p h l = absurd (omega (arith, ints))
steps_are (pos b) slack extent p h l = record { least = by_sign (int_lt (int_div_euclid slack (pos b)) (pos 0)) refl; short = by_end (int_lt (int_div_euclid slack (pos b)) extent) refl; most = λ d m. by_next d m (int_lt (int_div_euclid slack (pos b)) d) refl }
  where
    q : ℤ
    q = int_div_euclid slack (pos b)

    floor : ((int_div_euclid slack (pos b) *ℤ pos b) ≤ℤ slack) × (slack <ℤ ((int_div_euclid slack (pos b) *ℤ pos b) +ℤ pos b))
    floor = floor_is slack b (omega (arith, ints))

    by_sign : (t : Bool) → int_lt (int_div_euclid slack (pos b)) (pos 0) ≡ t → pos 0 ≤ℤ int_div_euclid slack (pos b)
    by_sign true e =
        let k = below_from_test (int_div_euclid slack (pos b)) (pos 0) e in
        let n = times_order b (int_div_euclid slack (pos b)) (negsuc 0) (omega (arith, ints)) in
        let c = *ℤ_comm (int_div_euclid slack (pos b)) (pos b) in
        let one' = times_sum (pos b) (negsuc 0) (pos 1) in
        let z = *ℤ_comm (pos b) (pos 0) ∙ zero_times (pos b) in
        let o = times_one (pos b) in
        let f = floor in
        absurd (omega (arith, ints, k, n, c, one', z, o, f.0, f.1))
    by_sign false e = let k = above_from_test (int_div_euclid slack (pos b)) (pos 0) e in k

    by_end : (t : Bool) → int_lt (int_div_euclid slack (pos b)) extent ≡ t → int_div_euclid slack (pos b) <ℤ extent
    by_end true e = below_from_test (int_div_euclid slack (pos b)) extent e
    by_end false e =
        let k = above_from_test (int_div_euclid slack (pos b)) extent e in
        let n = times_order b extent (int_div_euclid slack (pos b)) k in
        let c = *ℤ_comm (int_div_euclid slack (pos b)) (pos b) in
        let f = floor in
        absurd (omega (arith, ints, n, c, f.0, l))

    by_next : (d : ℤ) → (pos b *ℤ d) ≤ℤ slack → (t : Bool) → int_lt (int_div_euclid slack (pos b)) d ≡ t → d ≤ℤ int_div_euclid slack (pos b)
    by_next d m true e =
        let k = below_from_test (int_div_euclid slack (pos b)) d e in
        let n = times_order b (int_div_euclid slack (pos b) +ℤ pos 1) d (omega (arith, ints)) in
        let s = times_sum (pos b) (int_div_euclid slack (pos b)) (pos 1) in
        let o = times_one (pos b) in
        let c = *ℤ_comm (int_div_euclid slack (pos b)) (pos b) in
        let f = floor in
        absurd (omega (arith, ints, n, s, o, c, f.1, m))
    by_next d m false e = above_from_test (int_div_euclid slack (pos b)) d e

-- a product with a difference
times_less : (a b c : ℤ) → (a *ℤ (b -ℤ c)) ≡ ((a *ℤ b) -ℤ (a *ℤ c))
times_less a b c =
    let s = times_sum a (b -ℤ c) c in
    let e : ((b -ℤ c) +ℤ c) ≡ b = omega (arith, ints) in
    let p = ap (λ z. a *ℤ z) e in
    omega (arith, ints, s, p)

-- a product with the opposite
times_opposite : (a x : ℤ) → ((pos 0 -ℤ a) *ℤ x) ≡ neg_ℤ (a *ℤ x)
times_opposite a x =
    let s = sum_times (pos 0 -ℤ a) a x in
    let e : ((pos 0 -ℤ a) +ℤ a) ≡ pos 0 = omega (arith, ints) in
    let p = ap (λ z. z *ℤ x) e in
    let z = zero_times x in
    omega (arith, ints, s, p, z)

-- the ends of a product, by the sign of the number
rising : (v : ℤ) (s : Side) → pos 0 <ℤ v → s.lower ≤ℤ s.upper → (low_end v s ≡ (v *ℤ s.lower)) × (high_end v s ≡ (v *ℤ s.upper))
rising (pos n) s p l = let o = times_order n s.lower s.upper l in (omega (arith, ints, clamps, o), omega (arith, ints, clamps, o))
rising (negsuc n) s p l = absurd (omega (arith, ints))

falling : (v : ℤ) (s : Side) → v <ℤ pos 0 → s.lower ≤ℤ s.upper → (low_end v s ≡ (v *ℤ s.upper)) × (high_end v s ≡ (v *ℤ s.lower))
falling (pos n) s p l = absurd (omega (arith, ints))
falling (negsuc n) s p l = let o = times_turn n s.lower s.upper l in (omega (arith, ints, clamps, o), omega (arith, ints, clamps, o))

pub above_rising : (v : ℤ) (s : Side) (x slack : ℤ) → pos 0 <ℤ v → s.lower ≤ℤ s.upper → ((v *ℤ x) -ℤ low_end v s) ≤ℤ slack → (v *ℤ (x -ℤ s.lower)) ≤ℤ slack
above_rising v s x slack p l h = let e = (rising v s p l).0 in let t = times_less v x s.lower in omega (arith, ints, e, t, h)

pub below_rising : (v : ℤ) (s : Side) (x slack : ℤ) → pos 0 <ℤ v → s.lower ≤ℤ s.upper → (high_end v s -ℤ (v *ℤ x)) ≤ℤ slack → (v *ℤ (s.upper -ℤ x)) ≤ℤ slack
below_rising v s x slack p l h = let e = (rising v s p l).1 in let t = times_less v s.upper x in omega (arith, ints, e, t, h)

pub above_falling : (v : ℤ) (s : Side) (x slack : ℤ) → v <ℤ pos 0 → s.lower ≤ℤ s.upper → ((v *ℤ x) -ℤ low_end v s) ≤ℤ slack → ((pos 0 -ℤ v) *ℤ (s.upper -ℤ x)) ≤ℤ slack
above_falling v s x slack p l h =
    let e = (falling v s p l).0 in
    let t = times_less v s.upper x in
    let o = times_opposite v (s.upper -ℤ x) in
    omega (arith, ints, e, t, o, h)

pub below_falling : (v : ℤ) (s : Side) (x slack : ℤ) → v <ℤ pos 0 → s.lower ≤ℤ s.upper → (high_end v s -ℤ (v *ℤ x)) ≤ℤ slack → ((pos 0 -ℤ v) *ℤ (x -ℤ s.lower)) ≤ℤ slack
below_falling v s x slack p l h =
    let e = (falling v s p l).1 in
    let t = times_less v x s.lower in
    let o = times_opposite v (x -ℤ s.lower) in
    omega (arith, ints, e, t, o, h)

-- the extent of a side is at most twice its reach
extent_small : (l u : ℤ) → unsigned_abs (u -ℤ l) ≤ 2 * max (unsigned_abs l) (unsigned_abs u)
extent_small (pos l) (pos u) = omega (arith, ints)
extent_small (pos l) (negsuc u) = omega (arith, ints)
extent_small (negsuc l) (pos u) = omega (arith, ints)
extent_small (negsuc l) (negsuc u) = omega (arith, ints)

pub extent_product_fits : (size : ℤ) (s : Side) → unsigned_abs size * reach s ≤ 2 ^ 125 → FitsSigned w128 (size *ℤ (s.upper -ℤ s.lower))
extent_product_fits size s h =
    let a = unsigned_abs-mul size (s.upper -ℤ s.lower) in
    let b = mul-le-mul_left (unsigned_abs size) (extent_small s.lower s.upper) in
    let d : unsigned_abs size * (2 * reach s) ≡ 2 * (unsigned_abs size * reach s) = grind arith in
    fits_from_abs (size *ℤ (s.upper -ℤ s.lower)) (omega (arith, a, b, d, h))

-- a number between two that fit fits
pub between_fits : (l u x : ℤ) → l ≤ℤ x → x ≤ℤ u → FitsSigned w64 l → FitsSigned w64 u → FitsSigned w64 x
between_fits l u x h k f g = grind (arith, ints)

opposite-abs : (v : ℤ) → unsigned_abs (pos 0 -ℤ v) ≡ unsigned_abs v
opposite-abs (pos zero) = refl
opposite-abs (pos (suc n)) = omega (arith, ints)
opposite-abs (negsuc n) = omega (arith, ints)

pub wider : (x : ℤ) → FitsSigned w64 x → FitsSigned w128 x
wider x f = grind (arith, ints)

-- on a side of more than one value the product bounds the number
wide_small : (v : ℤ) (s : Side) → s.lower <ℤ s.upper → unsigned_abs v * reach s ≤ 2 ^ 125 → unsigned_abs v ≤ 2 ^ 125
wide_small v s w h =
    let e : unsigned_abs (pos 0) * (reach s * reach s) ≡ 0 = grind arith in
    (numbers_small v (pos 0) s (2 ^ 125) w (omega (arith, h, e))).0

pub negated_fits : (v : ℤ) (s : Side) → s.lower <ℤ s.upper → unsigned_abs v * reach s ≤ 2 ^ 125 → FitsSigned w128 (pos 0 -ℤ v)
negated_fits v s w h = fits_from_abs (pos 0 -ℤ v) (omega (arith, opposite-abs v, wide_small v s w h))
