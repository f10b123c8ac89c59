-- what narrower sides change: no part of an objective or of a row grows
use Rattle.std.proofs.Common.{arith, ℕ, suc, ◌+◌, ◌*◌, ◌<◌, ◌≤◌, ◌==◌, max, Bool, true, false, List, [], ◌∷◌, length, ℤ, pos, negsuc, ◌<ℤ◌, if◌then◌else◌, unsigned_abs}
use Rattle.std.proofs.lemmas.Int.{ints}
use Rattle.std.proofs.lemmas.List.Sums.{sum_by-cons}
use Rattle.std.proofs.Math.Nat.{mul-le-mul, mul-le-mul_left}
use Rattle.std.specs.List.{sum_by}
use Rattle.boxed_problem.specs.BoxedFacts.{column_size, entry_size, value_size}
use Rattle.boxed_problem.specs.Sides.{Within, reach, side_at}
use Rattle.base_words.specs.Sums.{number_at, size_below}
use Rattle.boxed_problem.specs.declared.parts.Entry.{Entry}
use Rattle.boxed_problem.specs.declared.parts.Side.{Side}
use Rattle.boxed_problem.proofs.Lying.{within_reach}
use Rattle.base_words.proofs.SumBounds.{size_below-le}

-- the parts of narrower sides are within those of the problem's
pub column_size-within : (inner outer : List Side) (line square : List ℤ) (j : ℕ) → Within inner outer → column_size inner line square j ≤ column_size outer line square j
column_size-within inner outer line square j w =
    let r = within_reach inner outer w j in
    let p = mul-le-mul_left (unsigned_abs (number_at line j)) r in
    let s = mul-le-mul r r in
    let q = mul-le-mul_left (unsigned_abs (number_at square j)) s in
    omega (arith, p, q)

pub column_size-le : (columns : List Side) (constant : ℤ) (line square : List ℤ) (j : ℕ) → j < length columns → column_size columns line square j ≤ value_size columns constant line square
column_size-le columns constant line square j h =
    let p : size_below (suc j) (column_size columns line square) ≤ size_below (length columns) (column_size columns line square) = size_below-le (suc j) (length columns) (column_size columns line square) (omega arith) in
    omega (arith, p)

-- on a side of more than one value the magnitudes bound the numbers themselves
pub numbers_small : (line square : ℤ) (s : Side) (most : ℕ) → s.lower <ℤ s.upper → unsigned_abs line * reach s + unsigned_abs square * (reach s * reach s) ≤ most → (unsigned_abs line ≤ most) × (unsigned_abs square ≤ most)
numbers_small line square s most h f =
    let one' = wide s.lower s.upper h in
    let p = mul-le-mul_left (unsigned_abs line) one' in
    let sq = mul-le-mul one' one' in
    let q = mul-le-mul_left (unsigned_abs square) sq in
    (omega (arith, p, q), omega (arith, p, q))
  where
    wide : (l u : ℤ) → l <ℤ u → 1 ≤ max (unsigned_abs l) (unsigned_abs u)
    wide (pos l) (pos u) h = omega (arith, ints)
    wide (pos l) (negsuc u) h = omega (arith, ints)
    wide (negsuc l) (pos u) h = omega (arith, ints)
    wide (negsuc l) (negsuc u) h = omega (arith, ints)

-- sides that reach no further make entries no greater, and so do narrower ones
pub entry_size-reach : (inner outer : List Side) (i : ℕ) (e : Entry) → reach (side_at inner e.column) ≤ reach (side_at outer e.column) → entry_size inner i e ≤ entry_size outer i e
entry_size-reach inner outer i e h = by_test (e.row == i)
  where
    by_test : (t : Bool) → (if t then unsigned_abs e.value * reach (side_at inner e.column) else 0) ≤ (if t then unsigned_abs e.value * reach (side_at outer e.column) else 0)
    by_test true = mul-le-mul_left (unsigned_abs e.value) h
    by_test false = omega arith

entry_size-within : (inner outer : List Side) (i : ℕ) (e : Entry) → Within inner outer → entry_size inner i e ≤ entry_size outer i e
entry_size-within inner outer i e w = entry_size-reach inner outer i e (within_reach inner outer w e.column)

sum_by-order : {E : Type 0} (f g : E → ℕ) → ((e : E) → f e ≤ g e) → (es : List E) → sum_by f es ≤ sum_by g es
sum_by-order f g h [] = omega arith
sum_by-order f g h (e ∷ es) = omega (arith, sum_by-cons f e es, sum_by-cons g e es, h e, sum_by-order f g h es)

pub entries_within : (inner outer : List Side) (i : ℕ) (es : List Entry) → Within inner outer → sum_by (entry_size inner i) es ≤ sum_by (entry_size outer i) es
entries_within inner outer i es w = sum_by-order (entry_size inner i) (entry_size outer i) (λ e. entry_size-within inner outer i e w) es
