-- values that are a multiple of a step apart: one below another is at least a step below it
use Rattle.std.proofs.Common.{arith, refl, ap, sym, subst, inl, inr, ◌∙◌, ◌≡◌, ℕ, zero, suc, ◌+◌, ◌*◌, ◌<◌, ◌≤◌, ◌==◌, Bool, true, false, List, length, ℤ, pos, negsuc, ◌+ℤ◌, ◌-ℤ◌, ◌*ℤ◌, ◌≤ℤ◌, int_le}
use Rattle.std.proofs.lemmas.Int.{ints}
use Rattle.std.proofs.Math.IntN.{*ℤ-zero, *ℤ_comm}
use Rattle.std.specs.Int.{int_div_euclid}
use Rattle.std.specs.List.{All}
use Rattle.std.proofs.lemmas.List.Elements.{recursion_from_All}
use Rattle.boxed_problem.specs.Data.{Problem}
use Rattle.boxed_problem.specs.Objective.{curve, value_of, value_part}
use Rattle.boxed_problem.specs.Points.{InBox}
use Rattle.boxed_problem.specs.Sides.{corner, side_at}
use Rattle.boxed_problem.proofs.Listing.{corner_on, on_in}
use Rattle.base_words.specs.Sums.{number_at, sum_below}
use Rattle.boxed_problem.specs.declared.parts.Side.{Side}
use Rattle.base_words.proofs.Comparisons.{most_from_test}
use Rattle.base_words.proofs.Quotients.{floor_is}
use Rattle.base_words.proofs.Products.{sum_times, times_one, times_order, times_sum}
use Rattle.branch_bound.specs.ValueGrid.{AllStep, Apart, HasStep, IsGrid, IsMultiple}
use Rattle.safe_bound.proofs.PriceLaws.{times_assoc}
use Rattle.safe_bound.proofs.Vertex.{curve_next}

apart_same : (s a b : ℤ) → a ≡ b → Apart s a b
apart_same s a b e = (pos 0, pos 0, ap (λ z. z +ℤ (s *ℤ pos 0)) e)

apart_turn : (s a b : ℤ) → Apart s a b → Apart s b a
apart_turn s a b h = (h.1, h.0, sym h.2)

apart_trans : (s a b c : ℤ) → Apart s a b → Apart s b c → Apart s a c
apart_trans s a b c h k = (h.0 +ℤ k.0, h.1 +ℤ k.1, omega (arith, ints, h.2, k.2, times_sum s h.0 k.0, times_sum s h.1 k.1))

apart_sum : (s a b c d : ℤ) → Apart s a b → Apart s c d → Apart s (a +ℤ c) (b +ℤ d)
apart_sum s a b c d h k = (h.0 +ℤ k.0, h.1 +ℤ k.1, omega (arith, ints, h.2, k.2, times_sum s h.0 k.0, times_sum s h.1 k.1))

-- what a column adds at one place and the next
curve_apart-next : (s line square x : ℤ) → IsMultiple s (line +ℤ square) → IsMultiple s (square +ℤ square) → Apart s (curve line square (x +ℤ pos 1)) (curve line square x)
curve_apart-next s line square x h k =
    let n = curve_next line square x in
    let t = times_sum s h.0 (k.0 *ℤ x) in
    let a = times_assoc s k.0 x in
    let d = sum_times square square x in
    let e = ap (λ z. z *ℤ x) k.1 in
    let z = *ℤ-zero s in
    (pos 0, h.0 +ℤ (k.0 *ℤ x), omega (arith, ints, n, t, a, d, e, z, h.1))

curve_apart-up : (s line square : ℤ) (n : ℕ) (x y : ℤ) → IsMultiple s (line +ℤ square) → IsMultiple s (square +ℤ square) → y ≡ (x +ℤ pos n) → Apart s (curve line square y) (curve line square x)
curve_apart-up s line square zero x y h k e =
    let same : y ≡ x = omega (arith, ints) in
    apart_same s (curve line square y) (curve line square x) (ap (curve line square) same)
curve_apart-up s line square (suc n) x y h k e =
    let same : y ≡ ((x +ℤ pos n) +ℤ pos 1) = omega (arith, ints) in
    subst (λ z. Apart s (curve line square z) (curve line square x)) (sym same)
    (apart_trans s (curve line square ((x +ℤ pos n) +ℤ pos 1)) (curve line square (x +ℤ pos n)) (curve line square x) (curve_apart-next s line square (x +ℤ pos n) h k) (curve_apart-up s line square n x (x +ℤ pos n) h k refl))

-- what a column adds at two places
curve_apart : (s line square x y : ℤ) → IsMultiple s (line +ℤ square) → IsMultiple s (square +ℤ square) → Apart s (curve line square y) (curve line square x)
curve_apart s line square x y h k = by_distance (y -ℤ x) refl
  where
    by_distance : (z : ℤ) → z ≡ (y -ℤ x) → Apart s (curve line square y) (curve line square x)
    by_distance (pos n) e = curve_apart-up s line square n x y h k (omega (arith, ints))
    by_distance (negsuc n) e = apart_turn s (curve line square x) (curve line square y) (curve_apart-up s line square (suc n) y x h k (omega (arith, ints)))

sum_apart : (s : ℤ) (n : ℕ) (f g : ℕ → ℤ) → ((j : ℕ) → j < n → Apart s (f j) (g j)) → Apart s (sum_below n f) (sum_below n g)
sum_apart s zero f g h = apart_same s (pos 0) (pos 0) refl
sum_apart s (suc n) f g h = apart_sum s (sum_below n f) (sum_below n g) (f n) (g n) (sum_apart s n f g (λ j l. h j (omega arith))) (h n (omega arith))

-- the values of two points of the box
value_apart : (b : Problem) (s : ℤ) (x y : List ℤ) → AllStep b s → InBox b.columns x → InBox b.columns y → Apart s (value_of b x) (value_of b y)
value_apart b s x y a h k =
    apart_sum s b.constant b.constant (sum_below (length b.columns) (value_part b.line b.square x)) (sum_below (length b.columns) (value_part b.line b.square y)) (apart_same s b.constant b.constant refl)
    (sum_apart s (length b.columns) (value_part b.line b.square x) (value_part b.line b.square y) (λ j l. by_column j l (a j l)))
  where
    by_column : (j : ℕ) → j < length b.columns → HasStep s (number_at b.line j) (number_at b.square j) (side_at b.columns j) → Apart s (value_part b.line b.square x j) (value_part b.line b.square y j)
    by_column j l (inl one) =
        let p = h.lower j l in
        let q = h.upper j l in
        let u = k.lower j l in
        let v = k.upper j l in
        let same : number_at x j ≡ number_at y j = omega (arith, ints) in
        apart_same s (value_part b.line b.square x j) (value_part b.line b.square y j) (ap (curve (number_at b.line j) (number_at b.square j)) same)
    by_column j l (inr step) = curve_apart s (number_at b.line j) (number_at b.square j) (number_at y j) (number_at x j) step.0 step.1

-- one more column has the step
pub step_next : (b : Problem) (step : ℤ) (n : ℕ) → ((j : ℕ) → j < n → HasStep step (number_at b.line j) (number_at b.square j) (side_at b.columns j)) → HasStep step (number_at b.line n) (number_at b.square n) (side_at b.columns n) →
    (j : ℕ) → j < n + 1 → HasStep step (number_at b.line j) (number_at b.square j) (side_at b.columns j)
step_next b step n before here j l = by_test (j == n) refl
  where
    by_test : (t : Bool) → (j == n) ≡ t → HasStep step (number_at b.line j) (number_at b.square j) (side_at b.columns j)
    by_test true e = let same : n ≡ j = grind arith in subst (λ k. HasStep step (number_at b.line k) (number_at b.square k) (side_at b.columns k)) same here
    by_test false e = let less : j < n = grind arith in before j less

-- the point of all lower ends lies in the box
pub first_lies : (columns : List Side) (x : List ℤ) → All (λ s. s.lower ≤ℤ s.upper) columns → x ≡ corner columns → InBox columns x
first_lies columns x f e = subst (λ y. InBox columns y) (sym e) (on_in columns (corner columns) (corner_on columns (recursion_from_All (λ (s : Side). s.lower ≤ℤ s.upper) columns f)))

-- the value of any point of the box is a base
pub grid_is : (b : Problem) (base step : ℤ) (y : List ℤ) → pos 1 ≤ℤ step → AllStep b step → InBox b.columns y → base ≡ value_of b y → IsGrid b base step
grid_is b base step y p a i e = record { positive = p; apart = λ x h. subst (λ z. Apart step (value_of b x) z) (sym e) (value_apart b step x y a h i) }

-- the step 1 serves each problem
pub grid_of_ones : (b : Problem) (base : ℤ) → IsGrid b base (pos 1)
grid_of_ones b base = record { positive = omega (arith, ints); apart = λ x h. (base, value_of b x, omega (arith, ints, one_times base, one_times (value_of b x))) }
  where
    one_times : (z : ℤ) → (pos 1 *ℤ z) ≡ z
    one_times z = *ℤ_comm (pos 1) z ∙ times_one z

-- a number of the grid that is at most another is at most the greatest of the grid that is
pub at_most_floor : (step base top v : ℤ) → pos 1 ≤ℤ step → Apart step v base → v ≤ℤ top → v ≤ℤ (base +ℤ (step *ℤ int_div_euclid (top -ℤ base) step))
at_most_floor (negsuc n) base top v p a l = absurd (omega (arith, ints))
at_most_floor (pos n) base top v p a l = by_test (int_le (a.1 -ℤ a.0) q) refl
  where
    q : ℤ
    q = int_div_euclid (top -ℤ base) (pos n)

    by_test : (t : Bool) → int_le (a.1 -ℤ a.0) q ≡ t → v ≤ℤ (base +ℤ (pos n *ℤ q))
    by_test true e =
        let o = times_order n (a.1 -ℤ a.0) q (most_from_test (a.1 -ℤ a.0) q e) in
        let d = times_sum (pos n) (a.1 -ℤ a.0) a.0 in
        let same : ((a.1 -ℤ a.0) +ℤ a.0) ≡ a.1 = omega (arith, ints) in
        let s = ap (λ z. pos n *ℤ z) same in
        omega (arith, ints, o, d, s, a.2)
    by_test false e =
        let above : (q +ℤ pos 1) ≤ℤ (a.1 -ℤ a.0) = grind (arith, ints) in
        let o = times_order n (q +ℤ pos 1) (a.1 -ℤ a.0) above in
        let d = times_sum (pos n) (a.1 -ℤ a.0) a.0 in
        let same : ((a.1 -ℤ a.0) +ℤ a.0) ≡ a.1 = omega (arith, ints) in
        let s = ap (λ z. pos n *ℤ z) same in
        let t = times_sum (pos n) q (pos 1) in
        let u = times_one (pos n) in
        let c = *ℤ_comm q (pos n) in
        let f = floor_is (top -ℤ base) n (omega (arith, ints, p)) in
        absurd (omega (arith, ints, o, d, s, t, u, c, f.1, a.2))
