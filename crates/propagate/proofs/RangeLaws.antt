-- The activity at a point of a box lies in the row's range, so a row that is missed is missed everywhere.
use Rattle.std.proofs.Common.{arith, refl, ap, subst, ◌≡◌, ℕ, zero, suc, ◌*◌, ◌<◌, ◌≤◌, ◌==◌, Bool, true, false, not, ◌&&◌, ◌||◌, List, [], ◌∷◌, ℤ, pos, ◌+ℤ◌, ◌*ℤ◌, ◌≤ℤ◌, Option, Some, None, if◌then◌else◌, nat_lt, unsigned_abs}
use Rattle.std.proofs.lemmas.Bool.{and_from, or_from}
use Rattle.std.proofs.lemmas.Int.{ints, clamps, unsigned_abs-mul}
use Rattle.std.proofs.Math.Nat.{mul-le-mul_left}
use Rattle.std.specs.Int.{int_max, int_min}
use Rattle.std.specs.List.{fold}
use Rattle.boxed_problem.specs.BoxedFacts.{entry_size, limits_at}
use Rattle.propagate.specs.Ranges.{high_activity, high_part, low_activity, low_part, misses, misses_one}
use Rattle.boxed_problem.specs.Rows.{activity, activity_part, is_above, is_below, meets, meets_rows}
use Rattle.boxed_problem.specs.Sides.{reach, side_at}
use Rattle.base_words.specs.Sums.{number_at}
use Rattle.boxed_problem.specs.declared.parts.Entry.{Entry}
use Rattle.boxed_problem.specs.declared.parts.Limits.{Limits}
use Rattle.boxed_problem.specs.declared.parts.Side.{Side}
use Rattle.boxed_problem.proofs.Lying.{Single, single_at}
use Rattle.boxed_problem.proofs.Lying.{Lies}
use Rattle.base_words.proofs.Products.{times_between}
use Rattle.base_words.proofs.Comparisons.{both_left, both_right, most_from_test, not_not, test_from_most}
use Rattle.base_words.proofs.Booleans.{or_left, or_right, or_right_true}

-- sums of parts in order are in order
pub fold_order : {E : Type 0} (f g : E → ℤ) → ((e : E) → f e ≤ℤ g e) → (a b : ℤ) (es : List E) → a ≤ℤ b → fold (λ s e. s +ℤ f e) a es ≤ℤ fold (λ s e. s +ℤ g e) b es
fold_order f g h a b [] l = l
fold_order f g h a b (e ∷ es) l = let p = h e in fold_order f g h (a +ℤ f e) (b +ℤ g e) es (omega (arith, ints))

-- an entry's part at a point lies between its ends
pub parts_hold : (box : List Side) (x : List ℤ) (i : ℕ) (e : Entry) → Lies box x → (low_part box i e ≤ℤ activity_part x i e) × (activity_part x i e ≤ℤ high_part box i e)
parts_hold box x i e h = by_test (e.row == i)
  where
    by_test : (t : Bool) →
        ((if t then int_min (e.value *ℤ (side_at box e.column).lower) (e.value *ℤ (side_at box e.column).upper) else pos 0) ≤ℤ (if t then e.value *ℤ number_at x e.column else pos 0))
        × ((if t then e.value *ℤ number_at x e.column else pos 0) ≤ℤ (if t then int_max (e.value *ℤ (side_at box e.column).lower) (e.value *ℤ (side_at box e.column).upper) else pos 0))
    by_test true = let l = h e.column in times_between e.value (side_at box e.column).lower (side_at box e.column).upper (number_at x e.column) l.0 l.1
    by_test false = (omega (arith, ints), omega (arith, ints))

-- the activity at a point of a box lies in its range
range_holds : (entries : List Entry) (box : List Side) (x : List ℤ) (i : ℕ) → Lies box x → (low_activity entries box i ≤ℤ activity entries x i) × (activity entries x i ≤ℤ high_activity entries box i)
range_holds entries box x i h = (
  fold_order (low_part box i) (activity_part x i) (λ e. (parts_hold box x i e h).0) (pos 0) (pos 0) entries (omega (arith, ints)),
  fold_order (activity_part x i) (high_part box i) (λ e. (parts_hold box x i e h).1) (pos 0) (pos 0) entries (omega (arith, ints)),
)

pub above_more : (o : Option ℤ) (a b : ℤ) → a ≤ℤ b → is_above o a ≡ true → is_above o b ≡ true
above_more None a b h e = refl
above_more (Some l) a b h e = let k = most_from_test l a e in test_from_most l b (omega (arith, ints))

pub below_less : (o : Option ℤ) (a b : ℤ) → a ≤ℤ b → is_below o b ≡ true → is_below o a ≡ true
below_less None a b h e = refl
below_less (Some u) a b h e = let k = most_from_test b u e in test_from_most a u (omega (arith, ints))

-- a range with a number in the limits doesn't miss them
met_not_missed : (limits : Limits) (low high a : ℤ) → low ≤ℤ a → a ≤ℤ high → meets limits a ≡ true → misses limits low high ≡ false
met_not_missed limits low high a h k e =
    ap not (and_from (is_above limits.lower high) (is_below limits.upper low)
    (above_more limits.lower a high k (both_left (is_above limits.lower a) (is_below limits.upper a) e))
    (below_less limits.upper low a h (both_right (is_above limits.lower a) (is_below limits.upper a) e)))

-- a range of one number that doesn't miss the limits meets them
not_missed_met : (limits : Limits) (low high a : ℤ) → low ≤ℤ a → a ≤ℤ high → high ≤ℤ low → misses limits low high ≡ false → meets limits a ≡ true
not_missed_met limits low high a h k l e =
    let t = not_not (is_above limits.lower high && is_below limits.upper low) e in
    and_from (is_above limits.lower a) (is_below limits.upper a)
    (above_more limits.lower high a (omega (arith, ints)) (both_left (is_above limits.lower high) (is_below limits.upper low) t))
    (below_less limits.upper a low (omega (arith, ints)) (both_right (is_above limits.lower high) (is_below limits.upper low) t))

-- where a point of the box meets all rows, no row is missed
pub rows_not_missed : (n : ℕ) (rows : List Limits) (entries : List Entry) (box : List Side) (x : List ℤ) → Lies box x → meets_rows n rows entries x ≡ true → misses_one n rows entries box ≡ false
rows_not_missed zero rows entries box x h e = refl
rows_not_missed (suc n) rows entries box x h e =
    let r = range_holds entries box x n h in
    or_from (misses_one n rows entries box) (misses (limits_at rows n) (low_activity entries box n) (high_activity entries box n))
    (rows_not_missed n rows entries box x h (both_left (meets_rows n rows entries x) (meets (limits_at rows n) (activity entries x n)) e))
    (met_not_missed (limits_at rows n) (low_activity entries box n) (high_activity entries box n) (activity entries x n) r.0 r.1 (both_right (meets_rows n rows entries x) (meets (limits_at rows n) (activity entries x n)) e))

-- where one row is missed, one of all is
pub row_missed : (n : ℕ) (rows : List Limits) (entries : List Entry) (box : List Side) (i : ℕ) → i < n → misses (limits_at rows i) (low_activity entries box i) (high_activity entries box i) ≡ true → misses_one n rows entries box ≡ true
row_missed zero rows entries box i l h = absurd (omega arith)
row_missed (suc n) rows entries box i l h = by_place (nat_lt i n) refl (λ k. row_missed n rows entries box i k h)
  where
    either_true : (p q : Bool) → p ≡ true → (p || q) ≡ true
    either_true true q e = refl
    either_true false q e = absurd cc

    by_place : (t : Bool) → nat_lt i n ≡ t → (i < n → misses_one n rows entries box ≡ true) → misses_one (suc n) rows entries box ≡ true
    by_place true e r = let k : i < n = grind arith in either_true (misses_one n rows entries box) (misses (limits_at rows n) (low_activity entries box n) (high_activity entries box n)) (r k)
    by_place false e r =
        let k : i ≡ n = grind arith in
        or_right_true (misses_one n rows entries box) (misses (limits_at rows n) (low_activity entries box n) (high_activity entries box n))
        (subst (λ j. misses (limits_at rows j) (low_activity entries box j) (high_activity entries box j) ≡ true) k h)

single_parts : (box : List Side) (i : ℕ) (e : Entry) → Single box → high_part box i e ≤ℤ low_part box i e
single_parts box i e h = by_test (e.row == i)
  where
    by_test : (t : Bool) →
        (if t then int_max (e.value *ℤ (side_at box e.column).lower) (e.value *ℤ (side_at box e.column).upper) else pos 0)
        ≤ℤ (if t then int_min (e.value *ℤ (side_at box e.column).lower) (e.value *ℤ (side_at box e.column).upper) else pos 0)
    by_test true = let p = ap (λ z. e.value *ℤ z) (single_at box h e.column) in omega (arith, ints, clamps, p)
    by_test false = omega (arith, ints)

-- where no row of a box of single columns is missed, its point meets all rows
pub single_met : (n : ℕ) (rows : List Limits) (entries : List Entry) (box : List Side) (x : List ℤ) → Single box → Lies box x → misses_one n rows entries box ≡ false → meets_rows n rows entries x ≡ true
single_met zero rows entries box x h l e = refl
single_met (suc n) rows entries box x h l e =
    let r = range_holds entries box x n l in
    let s = fold_order (high_part box n) (low_part box n) (λ d. single_parts box n d h) (pos 0) (pos 0) entries (omega (arith, ints)) in
    and_from (meets_rows n rows entries x) (meets (limits_at rows n) (activity entries x n))
    (single_met n rows entries box x h l (or_left (misses_one n rows entries box) (misses (limits_at rows n) (low_activity entries box n) (high_activity entries box n)) e))
    (not_missed_met (limits_at rows n) (low_activity entries box n) (high_activity entries box n) (activity entries x n) r.0 r.1 s
    (or_right (misses_one n rows entries box) (misses (limits_at rows n) (low_activity entries box n) (high_activity entries box n)) e))

-- the magnitude of the lesser and the greater of two numbers
pub abs-min : (a b : ℤ) (m : ℕ) → unsigned_abs a ≤ m → unsigned_abs b ≤ m → unsigned_abs (int_min a b) ≤ m
abs-min a b m h k = grind (arith, ints)

pub abs-max : (a b : ℤ) (m : ℕ) → unsigned_abs a ≤ m → unsigned_abs b ≤ m → unsigned_abs (int_max a b) ≤ m
abs-max a b m h k = grind (arith, ints)

ends_size : (v : ℤ) (s : Side) → (unsigned_abs (v *ℤ s.lower) ≤ unsigned_abs v * reach s) × (unsigned_abs (v *ℤ s.upper) ≤ unsigned_abs v * reach s)
ends_size v s =
    let l : unsigned_abs s.lower ≤ reach s = omega arith in
    let u : unsigned_abs s.upper ≤ reach s = omega arith in
    (omega (arith, unsigned_abs-mul v s.lower, mul-le-mul_left (unsigned_abs v) l), omega (arith, unsigned_abs-mul v s.upper, mul-le-mul_left (unsigned_abs v) u))

-- an entry's ends have at most the entry's magnitude
pub low_part-size : (box : List Side) (i : ℕ) (e : Entry) → unsigned_abs (low_part box i e) ≤ entry_size box i e
low_part-size box i e = by_test (e.row == i)
  where
    by_test : (t : Bool) → unsigned_abs (if t then int_min (e.value *ℤ (side_at box e.column).lower) (e.value *ℤ (side_at box e.column).upper) else pos 0) ≤ (if t then unsigned_abs e.value * reach (side_at box e.column) else 0)
    by_test true = let s = ends_size e.value (side_at box e.column) in abs-min (e.value *ℤ (side_at box e.column).lower) (e.value *ℤ (side_at box e.column).upper) (unsigned_abs e.value * reach (side_at box e.column)) s.0 s.1
    by_test false = omega (arith, ints)

pub high_part-size : (box : List Side) (i : ℕ) (e : Entry) → unsigned_abs (high_part box i e) ≤ entry_size box i e
high_part-size box i e = by_test (e.row == i)
  where
    by_test : (t : Bool) → unsigned_abs (if t then int_max (e.value *ℤ (side_at box e.column).lower) (e.value *ℤ (side_at box e.column).upper) else pos 0) ≤ (if t then unsigned_abs e.value * reach (side_at box e.column) else 0)
    by_test true = let s = ends_size e.value (side_at box e.column) in abs-max (e.value *ℤ (side_at box e.column).lower) (e.value *ℤ (side_at box e.column).upper) (unsigned_abs e.value * reach (side_at box e.column)) s.0 s.1
    by_test false = omega (arith, ints)
