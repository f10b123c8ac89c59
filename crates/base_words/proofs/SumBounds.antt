-- sums over the numbers below n and folds of sums: their bounds by magnitudes, and one part more

use Rattle.std.proofs.Common.{arith, refl, ap, ◌∙◌, sym, ◌≡◌, ℕ, zero, suc, ◌+◌, ◌*◌, ◌^◌, ◌<◌, ◌≤◌, Bool, true, false, nat_le, List, [], ◌∷◌, length, get_or, take, ℤ, pos, ◌+ℤ◌, ◌≤ℤ◌, FitsSigned, unsigned_abs}
use Rattle.std.proofs.Math.Nat.{mul-add}
use Rattle.std.proofs.lemmas.Int.{ints}
use Rattle.std.proofs.lemmas.List.Sums.{fold_more, sum_by-take-le, sum_by-cons, sum_by_more}
use Rattle.std.specs.Int.{w128}
use Rattle.std.specs.List.{fold, sum_by}
use Rattle.base_words.proofs.Magnitudes.{abs-add, fits_from_abs}
use Rattle.base_words.specs.Sums.{sum_below, size_below}

-- a sum, by the magnitudes of its parts
pub sum_below-abs : (n : ℕ) (f : ℕ → ℤ) (g : ℕ → ℕ) → ((k : ℕ) → k < n → unsigned_abs (f k) ≤ g k) → unsigned_abs (sum_below n f) ≤ size_below n g
sum_below-abs zero f g h = omega (arith, ints)
sum_below-abs (suc n) f g h = omega (arith, abs-add (sum_below n f) (f n), h n (omega arith), sum_below-abs n f g (λ k l. h k (omega arith)))

-- the next part of a sum
pub sum_below-next : (constant s p : ℤ) (j : ℕ) (f : ℕ → ℤ) → s ≡ (constant +ℤ sum_below j f) → p ≡ f j → (s +ℤ p) ≡ (constant +ℤ sum_below (j + 1) f)
sum_below-next constant s p j f e d =
    let n : (j + 1) ≡ suc j = omega arith in
    omega (arith, ints, e, d, ap (λ k. sum_below k f) n)

-- the same where nothing stands before the sum
pub sum_below-more : (s p : ℤ) (j : ℕ) (f : ℕ → ℤ) → s ≡ sum_below j f → p ≡ f j → (s +ℤ p) ≡ sum_below (j + 1) f
sum_below-more s p j f e d =
    let n : j + 1 ≡ suc j = omega arith in
    omega (arith, ints, e, d, ap (λ k. sum_below k f) n)

-- a sum of parts that are no greater
pub sum_below-mono : (n : ℕ) (f g : ℕ → ℤ) → ((k : ℕ) → k < n → f k ≤ℤ g k) → sum_below n f ≤ℤ sum_below n g
sum_below-mono zero f g h = omega (arith, ints)
sum_below-mono (suc n) f g h = omega (arith, ints, h n (omega arith), sum_below-mono n f g (λ k l. h k (omega arith)))

-- a sum of more parts is no smaller
pub size_below-le : (i n : ℕ) (g : ℕ → ℕ) → i ≤ n → size_below i g ≤ size_below n g
size_below-le i zero g h = let e : i ≡ zero = omega arith in omega (arith, ap (λ j. size_below j g) e)
size_below-le i (suc n) g h = by_end (nat_le i n) refl (λ l. size_below-le i n g l)
  where
    by_end : (t : Bool) → nat_le i n ≡ t → (i ≤ n → size_below i g ≤ size_below n g) → size_below i g ≤ size_below (suc n) g
    by_end true e r = let l : i ≤ n = grind arith in omega (arith, r l)
    by_end false e r = let l : i ≡ suc n = grind arith in omega (arith, ap (λ j. size_below j g) l)

-- the part of one column, within the sum over all
pub size_below-part : (n : ℕ) (g : ℕ → ℕ) (j : ℕ) → j < n → g j ≤ size_below n g
size_below-part n g j h =
    let p : size_below (suc j) g ≤ size_below n g = size_below-le (suc j) n g (omega arith) in
    omega (arith, p)

-- sums of parts that are the same, that are no greater, and that are sums
pub size_below-same : (n : ℕ) (f g : ℕ → ℕ) → ((k : ℕ) → k < n → f k ≡ g k) → size_below n f ≡ size_below n g
size_below-same zero f g h = refl
size_below-same (suc n) f g h = omega (arith, h n (omega arith), size_below-same n f g (λ k l. h k (omega arith)))

pub size_below-mono : (n : ℕ) (f g : ℕ → ℕ) → ((k : ℕ) → k < n → f k ≤ g k) → size_below n f ≤ size_below n g
size_below-mono zero f g h = omega arith
size_below-mono (suc n) f g h = omega (arith, h n (omega arith), size_below-mono n f g (λ k l. h k (omega arith)))

pub size_below-add : (n : ℕ) (f g : ℕ → ℕ) → size_below n (λ k. f k + g k) ≡ size_below n f + size_below n g
size_below-add zero f g = refl
size_below-add (suc n) f g = omega (arith, size_below-add n f g)

-- a factor of all parts
pub size_below-times : (n c : ℕ) (f : ℕ → ℕ) → size_below n (λ k. c * f k) ≡ c * size_below n f
size_below-times zero c f = omega arith
size_below-times (suc n) c f = ap (λ m. m + c * f n) (size_below-times n c f) ∙ sym (mul-add c (size_below n f) (f n))

-- a fold of sums, by the magnitudes of its parts
pub fold-abs : {E : Type 0} (f : E → ℤ) (g : E → ℕ) → ((e : E) → unsigned_abs (f e) ≤ g e) → (a : ℤ) (es : List E) → unsigned_abs (fold (λ s e. s +ℤ f e) a es) ≤ unsigned_abs a + sum_by g es
fold-abs f g h a [] = omega arith
fold-abs f g h a (e ∷ es) = omega (arith, fold-abs f g h (a +ℤ f e) es, abs-add a (f e), h e, sum_by-cons g e es)

-- the same where the bound on a part holds of each element of the list
pub fold-abs_all : {E : Type 0} (f : E → ℤ) (g : E → ℕ) (d : E) (es : List E) (i : ℕ) → ((k : ℕ) → k < length es → unsigned_abs (f (get_or es k d)) ≤ g (get_or es k d)) → i ≤ length es →
    unsigned_abs (fold (λ s e. s +ℤ f e) (pos 0) (take i es)) ≤ sum_by g (take i es)
fold-abs_all f g d es zero h l = omega (arith, ints)
fold-abs_all f g d es (suc i) h l =
    let p = fold_more (λ s e. s +ℤ f e) (pos 0) es i d (omega arith) in
    let q = sum_by_more g es i d (omega arith) in
    let r = fold-abs_all f g d es i h (omega arith) in
    let n : suc i ≡ i + 1 = omega arith in
    let p' : fold (λ s e. s +ℤ f e) (pos 0) (take (suc i) es) ≡ fold (λ s e. s +ℤ f e) (pos 0) (take i es) +ℤ f (get_or es i d) = ap (λ j. fold (λ s e. s +ℤ f e) (pos 0) (take j es)) n ∙ p in
    let q' : sum_by g (take (suc i) es) ≡ sum_by g (take i es) + g (get_or es i d) = ap (λ j. sum_by g (take j es)) n ∙ q in
    let t = abs-add (fold (λ s e. s +ℤ f e) (pos 0) (take i es)) (f (get_or es i d)) in
    omega (arith, ap unsigned_abs p', q', r, t, h i (omega arith))

-- sums of parts, each within its magnitude, fit
pub fold_fits : {E : Type 0} (f : E → ℤ) (g : E → ℕ) → ((e : E) → unsigned_abs (f e) ≤ g e) → (es : List E) (k : ℕ) → sum_by g es ≤ 2 ^ 122 → FitsSigned w128 (fold (λ s e. s +ℤ f e) (pos 0) (take k es))
fold_fits f g h es k l =
    let p = fold-abs f g h (pos 0) (take k es) in
    fits_from_abs (fold (λ s e. s +ℤ f e) (pos 0) (take k es)) (omega (arith, p, sum_by-take-le g es k))

-- a fold of one part more
pub fold_next : {E : Type 0} (f : E → ℤ) (es : List E) (k : ℕ) (d : E) (s p : ℤ) → k < length es → s ≡ fold (λ s e. s +ℤ f e) (pos 0) (take k es) → p ≡ f (get_or es k d) →
    (s +ℤ p) ≡ fold (λ s e. s +ℤ f e) (pos 0) (take (k + 1) es)
fold_next f es k d s p l e q =
    let m = fold_more (λ s e. s +ℤ f e) (pos 0) es k d l in
    ap (λ z. z +ℤ p) e ∙ (ap (λ z. fold (λ s e. s +ℤ f e) (pos 0) (take k es) +ℤ z) q ∙ sym m)
