-- magnitudes of a problem's values and activities, by those of its data

use Rattle.std.proofs.Common.{arith, ap, sym, ◌∙◌, ◌≡◌, ℕ, ◌+◌, ◌*◌, ◌^◌, ◌<◌, ◌≤◌, Bool, true, false, List, length, get_or, take, ℤ, pos, ◌+ℤ◌, ◌*ℤ◌, FitsSigned, unsigned_abs, ◌==◌, if◌then◌else◌}
use Rattle.std.proofs.lemmas.Int.{ints, unsigned_abs-mul}
use Rattle.std.proofs.lemmas.List.Sums.{fold_more, sum_by-take-le, get_or-le-sum_by}
use Rattle.std.proofs.Math.Nat.{mul-le-mul, mul-le-mul_left}
use Rattle.std.specs.Int.{w128}
use Rattle.std.specs.List.{All, sum_by}
use Rattle.base_words.proofs.Magnitudes.{abs-add, abs_between, fits_from_abs}
use Rattle.base_words.proofs.SumBounds.{sum_below-abs, size_below-le, size_below-part, fold-abs_all}
use Rattle.boxed_problem.specs.Data.{Problem}
use Rattle.boxed_problem.specs.Objective.{curve, value_of, value_part}
use Rattle.boxed_problem.specs.BoxedFacts.{column_size, value_size, entry_size}
use Rattle.boxed_problem.specs.Rows.{activity, activity_part}
use Rattle.boxed_problem.specs.declared.parts.Entry.{Entry}
use Rattle.boxed_problem.specs.Points.{InBox}
use Rattle.boxed_problem.specs.Sides.{reach, side_at}
use Rattle.base_words.specs.Sums.{sum_below, number_at}
use Rattle.boxed_problem.specs.declared.parts.Side.{Side}

-- the magnitude of what a column adds
pub abs-curve : (line square x : ℤ) → unsigned_abs (curve line square x) ≤ unsigned_abs line * unsigned_abs x + unsigned_abs square * (unsigned_abs x * unsigned_abs x)
abs-curve line square x =
    let p = unsigned_abs-mul line x in
    let q = unsigned_abs-mul square (x *ℤ x) ∙ ap (λ n. unsigned_abs square * n) (unsigned_abs-mul x x) in
    omega (arith, p, q, abs-add (line *ℤ x) (square *ℤ (x *ℤ x)))

pub curve_fits : (line square x : ℤ) → unsigned_abs line * unsigned_abs x + unsigned_abs square * (unsigned_abs x * unsigned_abs x) ≤ 2 ^ 125 → FitsSigned w128 (curve line square x)
curve_fits line square x h = fits_from_abs (curve line square x) (omega (arith, abs-curve line square x))

-- what a column adds has at most the column's magnitude
pub curve_size : (line square x : ℤ) (m : ℕ) → unsigned_abs x ≤ m →
    unsigned_abs line * unsigned_abs x + unsigned_abs square * (unsigned_abs x * unsigned_abs x) ≤ unsigned_abs line * m + unsigned_abs square * (m * m)
curve_size line square x m h =
    let p = mul-le-mul_left (unsigned_abs line) h in
    let q = mul-le-mul h h in
    let r = mul-le-mul_left (unsigned_abs square) q in
    omega (arith, p, r)

pub reach_bounds : (box : List Side) (x : List ℤ) (j : ℕ) → InBox box x → j < length box → unsigned_abs (number_at x j) ≤ reach (side_at box j)
reach_bounds box x j i h = abs_between (side_at box j).lower (side_at box j).upper (number_at x j) (i.lower j h) (i.upper j h)

pub column_within : (columns : List Side) (line square x : List ℤ) (j : ℕ) → InBox columns x → j < length columns →
    unsigned_abs (number_at line j) * unsigned_abs (number_at x j) + unsigned_abs (number_at square j) * (unsigned_abs (number_at x j) * unsigned_abs (number_at x j)) ≤ column_size columns line square j
column_within columns line square x j i h = curve_size (number_at line j) (number_at square j) (number_at x j) (reach (side_at columns j)) (reach_bounds columns x j i h)

pub column_fits : (columns : List Side) (constant : ℤ) (line square x : List ℤ) (j : ℕ) → InBox columns x → j < length columns → value_size columns constant line square ≤ 2 ^ 122 →
    unsigned_abs (number_at line j) * unsigned_abs (number_at x j) + unsigned_abs (number_at square j) * (unsigned_abs (number_at x j) * unsigned_abs (number_at x j)) ≤ 2 ^ 125
column_fits columns constant line square x j i h f =
    omega (arith, column_within columns line square x j i h, size_below-part (length columns) (column_size columns line square) j h)

-- the constant and the parts of the first columns fit
pub value_fits_upto : (columns : List Side) (constant : ℤ) (line square x : List ℤ) (j : ℕ) → InBox columns x → j ≤ length columns → value_size columns constant line square ≤ 2 ^ 122 →
    FitsSigned w128 (constant +ℤ sum_below j (value_part line square x))
value_fits_upto columns constant line square x j i h f =
    let s = sum_below-abs j (value_part line square x) (column_size columns line square)
    (λ k l. let p = abs-curve (number_at line k) (number_at square k) (number_at x k) in
    omega (arith, p, column_within columns line square x k i (omega arith))) in
    let p = size_below-le j (length columns) (column_size columns line square) h in
    let t = abs-add constant (sum_below j (value_part line square x)) in
    fits_from_abs (constant +ℤ sum_below j (value_part line square x)) (omega (arith, s, p, t))

-- the magnitude of a point's value
pub objective_abs : (p : Problem) (x : List ℤ) → InBox p.columns x → unsigned_abs (value_of p x) ≤ value_size p.columns p.constant p.line p.square
objective_abs p x inside =
    let n = length p.columns in
    let parts = sum_below-abs n (value_part p.line p.square x) (column_size p.columns p.line p.square) (λ k l. omega (arith, abs-curve (number_at p.line k) (number_at p.square k) (number_at x k), column_within p.columns p.line p.square x k inside l)) in
    omega (arith, abs-add p.constant (sum_below n (value_part p.line p.square x)), parts)

-- an entry's part has at most the entry's magnitude
pub activity_part-size : (box : List Side) (x : List ℤ) (i : ℕ) (e : Entry) → InBox box x → e.column < length box → unsigned_abs (activity_part x i e) ≤ entry_size box i e
activity_part-size box x i e h l = by_test (e.row == i)
  where
    by_test : (t : Bool) → unsigned_abs (if t then e.value *ℤ number_at x e.column else pos 0) ≤ (if t then unsigned_abs e.value * reach (side_at box e.column) else 0)
    by_test true =
        let p = unsigned_abs-mul e.value (number_at x e.column) in
        let q = mul-le-mul_left (unsigned_abs e.value) (reach_bounds box x e.column h l) in
        omega (arith, p, q)
    by_test false = omega (arith, ints)

pub activity_fits : (box : List Side) (entries : List Entry) (x : List ℤ) (i k : ℕ) (d : Entry) → InBox box x → All (λ e. e.column < length box) entries → sum_by (entry_size box i) entries ≤ 2 ^ 122 → k ≤ length entries →
    FitsSigned w128 (activity (take k entries) x i)
activity_fits box entries x i k d h places f l =
    let p = fold-abs_all (activity_part x i) (entry_size box i) d entries k (λ n m. activity_part-size box x i (get_or entries n d) h (places n d m)) l in
    fits_from_abs (activity (take k entries) x i) (omega (arith, p, sum_by-take-le (entry_size box i) entries k))

pub activity_next : (entries : List Entry) (x : List ℤ) (i k : ℕ) (d : Entry) (s p : ℤ) → k < length entries → s ≡ activity (take k entries) x i → p ≡ activity_part x i (get_or entries k d) →
    (s +ℤ p) ≡ activity (take (k + 1) entries) x i
activity_next entries x i k d s p l e q =
    let m = fold_more (λ s e. s +ℤ activity_part x i e) (pos 0) entries k d l in
    ap (λ z. z +ℤ p) e ∙ (ap (λ z. activity (take k entries) x i +ℤ z) q ∙ sym m)

-- the magnitude of one entry, within that of the row
pub entry_within : (box : List Side) (entries : List Entry) (i k : ℕ) (d : Entry) → k < length entries → sum_by (entry_size box i) entries ≤ 2 ^ 122 → entry_size box i (get_or entries k d) ≤ 2 ^ 122
entry_within box entries i k d l f = omega (arith, get_or-le-sum_by (entry_size box i) entries k d l)
