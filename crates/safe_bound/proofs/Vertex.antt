-- Where a parabola is least on a side: at the place nearest to its vertex.
use Rattle.std.proofs.Common.{arith, refl, ap, sym, subst, ◌≡◌, ℕ, zero, suc, ◌+◌, ◌*◌, ◌<◌, ◌≤◌, ℤ, pos, negsuc, ◌+ℤ◌, ◌-ℤ◌, ◌*ℤ◌, ◌≤ℤ◌, ◌<ℤ◌, unsigned_abs, int_lt, Bool, true, false}
use Rattle.std.proofs.lemmas.Int.{ints}
use Rattle.std.proofs.Math.IntN.{*ℤ_comm}
use Rattle.std.specs.Int.{int_div_euclid}
use Rattle.safe_bound.specs.Leasts.{IsLeastAt, IsNearest, IsVertex}
use Rattle.boxed_problem.specs.Objective.{curve}
use Rattle.boxed_problem.specs.declared.parts.Side.{Side}
use Rattle.base_words.proofs.Quotients.{floor_is}
use Rattle.base_words.proofs.Products.{square_next, times_one, times_order, times_sum, times_turn, zero_times}
use Rattle.base_words.proofs.Comparisons.{above_from_test, below_from_test}

-- what one step to the right adds
pub curve_next : (line square x : ℤ) → curve line square (x +ℤ pos 1) ≡ (curve line square x +ℤ ((((square *ℤ x) +ℤ (square *ℤ x)) +ℤ square) +ℤ line))
curve_next line square x =
    let s = ap (λ z. square *ℤ z) (square_next x) in
    let a = times_sum square (x *ℤ x) ((x +ℤ x) +ℤ pos 1) in
    let b = times_sum square (x +ℤ x) (pos 1) in
    let c = times_sum square x x in
    let e = times_sum line x (pos 1) in
    omega (arith, ints, s, a, b, c, e, times_one square, times_one line)

-- right of the vertex the curve rises
pub rises : (line : ℤ) (k : ℕ) (v : ℤ) → IsVertex line (pos k) v → (n : ℕ) (y z : ℤ) → v ≤ℤ y → z ≡ (y +ℤ pos n) → curve line (pos k) y ≤ℤ curve line (pos k) z
rises line k v h zero y z l e =
    let p : y ≡ z = omega (arith, ints) in
    let r = ap (λ x. curve line (pos k) x) p in
    omega (arith, ints, r)
rises line k v h (suc n) y z l e =
    let r = rises line k v h n y (y +ℤ pos n) l refl in
    let t = times_order k v (y +ℤ pos n) (omega (arith, ints)) in
    let s = curve_next line (pos k) (y +ℤ pos n) in
    let p : ((y +ℤ pos n) +ℤ pos 1) ≡ z = omega (arith, ints) in
    let u = ap (λ x. curve line (pos k) x) p in
    omega (arith, ints, r, t, s, u, h.low, h.high)

-- left of it the curve falls
pub falls : (line : ℤ) (k : ℕ) (v : ℤ) → IsVertex line (pos k) v → (n : ℕ) (y z : ℤ) → y ≤ℤ v → y ≡ (z +ℤ pos n) → curve line (pos k) y ≤ℤ curve line (pos k) z
falls line k v h zero y z l e =
    let p : y ≡ z = omega (arith, ints) in
    let r = ap (λ x. curve line (pos k) x) p in
    omega (arith, ints, r)
falls line k v h (suc n) y z l e =
    let r = falls line k v h n y (z +ℤ pos 1) l (omega (arith, ints)) in
    let t = times_order k (z +ℤ pos 1) v (omega (arith, ints)) in
    let d = times_sum (pos k) z (pos 1) in
    let s = curve_next line (pos k) z in
    let o = times_one (pos k) in
    omega (arith, ints, r, t, d, s, o, h.low, h.high)

vertex_is : (line : ℤ) (k : ℕ) → 0 < k → IsVertex line (pos k) (int_div_euclid (pos k -ℤ line) (pos k +ℤ pos k))
vertex_is line k h =
    let f = floor_is (pos k -ℤ line) (k + k) (omega arith) in
    let v = int_div_euclid (pos k -ℤ line) (pos k +ℤ pos k) in
    let p = times_sum v (pos k) (pos k) in
    let c = *ℤ_comm v (pos k) in
    record { low = omega (arith, ints, f.0, p, c); high = omega (arith, ints, f.1, p, c) }

-- how far apart two places are
distance : (y z : ℤ) → y ≤ℤ z → z ≡ (y +ℤ pos (unsigned_abs (z -ℤ y)))
distance y z h = omega (arith, ints, natural (z -ℤ y) (omega (arith, ints)))
  where
    natural : (d : ℤ) → pos 0 ≤ℤ d → pos (unsigned_abs d) ≡ d
    natural (pos n) h = refl
    natural (negsuc n) h = absurd (omega (arith, ints))

-- the place of a side nearest to the vertex is one of the least
pub nearest_least : (line square : ℤ) (s : Side) (v near : ℤ) → pos 0 <ℤ square → IsVertex line square v → IsNearest s v near → IsLeastAt line square s near
nearest_least line (negsuc k) s v near p h n = absurd (omega (arith, ints))
nearest_least line (pos k) s v near p h n = record { lower = n.lower; upper = n.upper; least = λ x l u. by_side x l u (int_lt x near) (int_lt near v) (int_lt v near) refl refl refl }
  where
    by_side : (x : ℤ) → s.lower ≤ℤ x → x ≤ℤ s.upper → (t b a : Bool) → int_lt x near ≡ t → int_lt near v ≡ b → int_lt v near ≡ a → curve line (pos k) near ≤ℤ curve line (pos k) x
    by_side x l u true b true e f g =
        let low = n.above (below_from_test v near g) in
        let k = below_from_test x near e in
        absurd (omega (arith, ints, low))
    by_side x l u true b false e f g =
        let k' = below_from_test x near e in
        falls line k v h (unsigned_abs (near -ℤ x)) near x (above_from_test v near g) (distance x near (omega (arith, ints)))
    by_side x l u false true a e f g =
        let high = n.below (below_from_test near v f) in
        let k' = above_from_test x near e in
        let same : near ≡ x = omega (arith, ints, high) in
        let c = ap (curve line (pos k)) same in
        omega (arith, ints, c)
    by_side x l u false false a e f g =
        rises line k v h (unsigned_abs (x -ℤ near)) near x (above_from_test near v f) (distance near x (above_from_test x near e))

-- on a straight line one end is least
straight_least : (line : ℤ) (s : Side) (at : ℤ) → s.lower ≤ℤ at → at ≤ℤ s.upper → ((x : ℤ) → s.lower ≤ℤ x → x ≤ℤ s.upper → (line *ℤ at) ≤ℤ (line *ℤ x)) → IsLeastAt line (pos 0) s at
straight_least line s at l u h = record { lower = l; upper = u; least = λ x k m. let p = h x k m in omega (arith, ints, p, zero_times (at *ℤ at), zero_times (x *ℤ x)) }

-- a rising line at its lower end, a falling one at its upper end
pub rising_least : (line square : ℤ) (s : Side) → s.lower ≤ℤ s.upper → square ≡ pos 0 → pos 0 ≤ℤ line → IsLeastAt line square s s.lower
rising_least line square s f e h = subst (λ q. IsLeastAt line q s s.lower) (sym e) (straight_least line s s.lower (omega (arith, ints)) f (ordered line h))
  where
    ordered : (line : ℤ) → pos 0 ≤ℤ line → (x : ℤ) → s.lower ≤ℤ x → x ≤ℤ s.upper → (line *ℤ s.lower) ≤ℤ (line *ℤ x)
    ordered (pos n) h x l u = times_order n s.lower x l
    ordered (negsuc n) h x l u = absurd (omega (arith, ints))

pub falling_least : (line square : ℤ) (s : Side) → s.lower ≤ℤ s.upper → square ≡ pos 0 → line <ℤ pos 0 → IsLeastAt line square s s.upper
falling_least line square s f e h = subst (λ q. IsLeastAt line q s s.upper) (sym e) (straight_least line s s.upper f (omega (arith, ints)) (ordered line h))
  where
    ordered : (line : ℤ) → line <ℤ pos 0 → (x : ℤ) → s.lower ≤ℤ x → x ≤ℤ s.upper → (line *ℤ s.upper) ≤ℤ (line *ℤ x)
    ordered (pos n) h x l u = absurd (omega (arith, ints))
    ordered (negsuc n) h x l u = times_turn n x s.upper u

-- at a single value there is no choice
single_place : (line square : ℤ) (s : Side) → s.lower ≡ s.upper → IsLeastAt line square s s.lower
single_place line square s e = record {
  lower = omega (arith, ints);
  upper = omega (arith, ints);
  least = λ x l u. let same : s.lower ≡ x = omega (arith, ints) in let c = ap (curve line square) same in omega (arith, ints, c);
}

pub vertex_of : (line square : ℤ) → pos 0 <ℤ square → IsVertex line square (int_div_euclid (square -ℤ line) (square +ℤ square))
vertex_of line (pos k) h = vertex_is line k (omega (arith, ints))
vertex_of line (negsuc k) h = absurd (omega (arith, ints))
