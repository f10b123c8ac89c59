-- The least of a column's part on a side, and the least of an objective in a box.
use Rattle.std.proofs.Common.{arith, refl, ap, ◌≡◌, ℕ, zero, suc, ◌+◌, ◌*◌, ◌^◌, ◌<◌, ◌≤◌, Bool, true, false, List, [], ◌∷◌, map, length, ℤ, pos, ◌+ℤ◌, ◌-ℤ◌, ◌≤ℤ◌, ◌<ℤ◌, FitsSigned, if◌then◌else◌, int_lt, unsigned_abs}
use Rattle.std.proofs.lemmas.Int.{ints, clamps}
use Rattle.std.specs.Int.{int_min, w128}
use Rattle.std.specs.List.{AllByRecursion, fold}
use Rattle.boxed_problem.specs.BoxedFacts.{column_size, value_size}
use Rattle.safe_bound.specs.Leasts.{IsLeastAt, least_on, least_part, least_value}
use Rattle.boxed_problem.specs.Objective.{curve, value_of, value_part}
use Rattle.boxed_problem.specs.Points.{run_from, side_count, side_values}
use Rattle.boxed_problem.specs.Sides.{Within, corner, reach, side_at}
use Rattle.base_words.specs.Sums.{number_at, sum_below}
use Rattle.boxed_problem.specs.declared.parts.Side.{Side}
use Rattle.boxed_problem.specs.Data.{Problem}
use Rattle.boxed_problem.proofs.Listing.{count_is}
use Rattle.boxed_problem.proofs.Narrower.{column_size-within}
use Rattle.boxed_problem.proofs.Lying.{Lies, Single, single_at, corner_at, filled_at}
use Rattle.base_words.proofs.Magnitudes.{abs-add, abs_between, fits_from_abs}
use Rattle.boxed_problem.proofs.Magnitudes.{abs-curve, curve_size}
use Rattle.base_words.proofs.SumBounds.{size_below-le, sum_below-abs, sum_below-mono}
use Rattle.base_words.proofs.Comparisons.{above_from_test, below_from_test}

-- what holds at each of n numbers from a on holds of all of them
run_all : (P : ℤ → Type 0) (f : ℤ → ℤ) (n : ℕ) (a : ℤ) → ((x : ℤ) → a ≤ℤ x → x <ℤ (a +ℤ pos n) → P (f x)) → AllByRecursion P (map f (run_from a n))
run_all P f zero a h = tt
run_all P f (suc n) a h = (h a (omega (arith, ints)) (omega (arith, ints)), run_all P f n (a +ℤ pos 1) (λ x l u. h x (omega (arith, ints)) (omega (arith, ints))))

min_first : (a : ℤ) (xs : List ℤ) → fold int_min a xs ≤ℤ a
min_first a [] = omega (arith, ints)
min_first a (x ∷ xs) = let r = min_first (int_min a x) xs in omega (arith, ints, clamps)

-- the least of some numbers is at most each of them
min_each : (f : ℤ → ℤ) (n : ℕ) (a b x : ℤ) → b ≤ℤ x → x <ℤ (b +ℤ pos n) → fold int_min a (map f (run_from b n)) ≤ℤ f x
min_each f zero a b x l u = absurd (omega (arith, ints))
min_each f (suc n) a b x l u = by_test (int_lt b x) refl (λ k. min_each f n (int_min a (f b)) (b +ℤ pos 1) x (omega (arith, ints)) (omega (arith, ints)))
  where
    by_test : (t : Bool) → int_lt b x ≡ t → (b <ℤ x → fold int_min (int_min a (f b)) (map f (run_from (b +ℤ pos 1) n)) ≤ℤ f x) → fold int_min (int_min a (f b)) (map f (run_from (b +ℤ pos 1) n)) ≤ℤ f x
    by_test true e r = r (below_from_test b x e)
    by_test false e r =
        let k = above_from_test b x e in
        let same : b ≡ x = omega (arith, ints) in
        let p = min_first (int_min a (f b)) (map f (run_from (b +ℤ pos 1) n)) in
        omega (arith, ints, clamps, p, ap f same)

-- what holds of all numbers holds of the least
min_all : (P : ℤ → Type 0) (a : ℤ) (xs : List ℤ) → P a → AllByRecursion P xs → P (fold int_min a xs)
min_all P a [] p h = p
min_all P a (x ∷ xs) p h = min_all P (int_min a x) xs (by_test (int_lt x a)) h.1
  where
    by_test : (t : Bool) → P (if t then x else a)
    by_test true = h.0
    by_test false = p

-- the least on a side is at most the curve at each place of it
pub least_on-le : (line square : ℤ) (s : Side) (x : ℤ) → s.lower ≤ℤ x → x ≤ℤ s.upper → least_on line square s ≤ℤ curve line square x
least_on-le line square s x l u =
    let n = count_is (s.upper -ℤ s.lower) (omega (arith, ints)) in
    min_each (curve line square) (side_count s) (curve line square s.lower) s.lower x l (omega (arith, ints))

-- what holds of the curve at each place of a side holds of the least
pub least_on-holds : (P : ℤ → Type 0) (line square : ℤ) (s : Side) → s.lower ≤ℤ s.upper → ((x : ℤ) → s.lower ≤ℤ x → x ≤ℤ s.upper → P (curve line square x)) → P (least_on line square s)
least_on-holds P line square s f h =
    let n = count_is (s.upper -ℤ s.lower) (omega (arith, ints)) in
    min_all P (curve line square s.lower) (map (curve line square) (side_values s)) (h s.lower (omega (arith, ints)) f)
    (run_all P (curve line square) (side_count s) s.lower (λ x l u. h x l (omega (arith, ints))))

pub least_at : (line square : ℤ) (s : Side) (at : ℤ) → IsLeastAt line square s at → curve line square at ≡ least_on line square s
least_at line square s at h =
    let p = least_on-le line square s at h.lower h.upper in
    let l = h.lower in
    let u = h.upper in
    let q = least_on-holds (λ z. curve line square at ≤ℤ z) line square s (omega (arith, ints)) h.least in
    omega (arith, ints, p, q)

-- the least has at most the column's magnitude
pub least_on-size : (line square : ℤ) (s : Side) → s.lower ≤ℤ s.upper → unsigned_abs (least_on line square s) ≤ unsigned_abs line * reach s + unsigned_abs square * (reach s * reach s)
least_on-size line square s f =
    least_on-holds (λ z. unsigned_abs z ≤ unsigned_abs line * reach s + unsigned_abs square * (reach s * reach s)) line square s f
    (λ x l u. let p = abs-curve line square x in let q = curve_size line square x (reach s) (abs_between s.lower s.upper x l u) in omega (arith, p, q))

-- the least in a box is at most the objective at each of its points
pub least_holds : (b : Problem) (box : List Side) (x : List ℤ) → Lies box x → least_value b box ≤ℤ value_of b x
least_holds b box x h =
    let r = sum_below-mono (length b.columns) (least_part b.line b.square box) (value_part b.line b.square x)
    (λ j m. let l = h j in least_on-le (number_at b.line j) (number_at b.square j) (side_at box j) (number_at x j) l.0 l.1) in
    omega (arith, ints)

-- in a box of single columns it is the objective at the only point
pub single_least : (b : Problem) (box : List Side) → Single box → least_value b box ≡ value_of b (corner box)
single_least b box h =
    let p = least_holds b box (corner box) (λ j. let e = corner_at box j in let d = single_at box h j in (omega (arith, ints), omega (arith, ints))) in
    let q = sum_below-mono (length b.columns) (value_part b.line b.square (corner box)) (least_part b.line b.square box) (λ j m. at_least j) in
    omega (arith, ints)
  where
    at_least : (j : ℕ) → value_part b.line b.square (corner box) j ≤ℤ least_part b.line b.square box j
    at_least j =
        let e = corner_at box j in
        let d = single_at box h j in
        least_on-holds (λ z. value_part b.line b.square (corner box) j ≤ℤ z) (number_at b.line j) (number_at b.square j) (side_at box j) (omega (arith, ints, d))
        (λ x l u. let same : number_at (corner box) j ≡ x = omega (arith, ints, e, d) in let c = ap (curve (number_at b.line j) (number_at b.square j)) same in omega (arith, ints, c))

-- the constant and the first leasts fit
pub least_fits_upto : (columns : List Side) (constant : ℤ) (line square : List ℤ) (box : List Side) (j : ℕ) → Within box columns → j ≤ length columns → value_size columns constant line square ≤ 2 ^ 125 →
    FitsSigned w128 (constant +ℤ sum_below j (least_part line square box))
least_fits_upto columns constant line square box j w h f =
    let s = sum_below-abs j (least_part line square box) (column_size columns line square)
    (λ k l. let p = least_on-size (number_at line k) (number_at square k) (side_at box k) (filled_at box w.filled k) in
    omega (arith, p, column_size-within box columns line square k w)) in
    let p = size_below-le j (length columns) (column_size columns line square) h in
    let t = abs-add constant (sum_below j (least_part line square box)) in
    fits_from_abs (constant +ℤ sum_below j (least_part line square box)) (omega (arith, s, p, t))
