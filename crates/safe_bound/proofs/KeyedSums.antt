-- sums over numbers and over lists, and the sum of a list's parts sorted by a key

use Rattle.std.proofs.Common.{arith, refl, ap, sym, ◌∙◌, ◌≡◌, ℕ, zero, suc, ◌+◌, ◌*◌, ◌<◌, ◌≤◌, ◌==◌, Bool, true, false, List, [], ◌∷◌, ℤ, pos, ◌+ℤ◌, ◌*ℤ◌, if◌then◌else◌}
use Rattle.std.proofs.lemmas.Int.{ints}
use Rattle.std.proofs.lemmas.List.Sums.{sum_by-cons}
use Rattle.std.specs.List.{AllByRecursion, sum_by}
use Rattle.base_words.proofs.Products.{times_sum}
use Rattle.base_words.specs.Sums.{size_below, sum_below}
use Rattle.base_words.specs.ListSums.{sum_z}
use Rattle.base_words.proofs.ListSums.{sum_z-cons}
use Rattle.base_words.proofs.ListSumsByNumber.{only_at-sum, sum_below-add, sum_below-same, sum_below-zero}
use Rattle.base_words.proofs.SumBounds.{size_below-same, size_below-add}

times_zero : (a : ℤ) → (a *ℤ pos 0) ≡ pos 0
times_zero a = omega (arith, ints)

pub sum_below-times : (a : ℤ) (n : ℕ) (f : ℕ → ℤ) → (a *ℤ sum_below n f) ≡ sum_below n (λ k. a *ℤ f k)
sum_below-times a zero f = times_zero a
sum_below-times a (suc n) f = omega (arith, ints, sum_below-times a n f, times_sum a (sum_below n f) (f n))

pub sum_by-same : {E : Type 0} (f g : E → ℕ) (es : List E) → ((e : E) → f e ≡ g e) → sum_by f es ≡ sum_by g es
sum_by-same f g [] h = refl
sum_by-same f g (e ∷ es) h = omega (arith, sum_by-cons f e es, sum_by-cons g e es, h e, sum_by-same f g es h)

pub sum_by-times : {E : Type 0} (a : ℕ) (f : E → ℕ) (es : List E) → a * sum_by f es ≡ sum_by (λ e. a * f e) es
sum_by-times a f [] = omega arith
sum_by-times a f (e ∷ es) = omega (arith, ap (λ n. a * n) (sum_by-cons f e es), sum_by-cons (λ d. a * f d) e es, sum_by-times a f es)

-- the sums of the parts with each key, added over the keys, are the sum of all parts
pub by_key : {E : Type 0} (g : E → ℕ) (h : E → ℤ) (n : ℕ) (es : List E) → AllByRecursion (λ e. g e < n) es →
    sum_below n (λ j. sum_z (λ e. if g e == j then h e else pos 0) es) ≡ sum_z h es
by_key g h n [] l = sum_below-zero n
by_key g h n (e ∷ es) l =
    sum_below-same n (λ j. sum_z (λ d. if g d == j then h d else pos 0) (e ∷ es)) (λ j. (if g e == j then h e else pos 0) +ℤ sum_z (λ d. if g d == j then h d else pos 0) es)
    (λ j b. sum_z-cons (λ d. if g d == j then h d else pos 0) e es)
    ∙ (sum_below-add n (λ j. if g e == j then h e else pos 0) (λ j. sum_z (λ d. if g d == j then h d else pos 0) es)
    ∙ (ap (λ z. z +ℤ sum_below n (λ j. sum_z (λ d. if g d == j then h d else pos 0) es)) (only_at-sum (λ j. h e) (g e) n l.0)
    ∙ (ap (λ z. h e +ℤ z) (by_key g h n es l.1) ∙ sym (sum_z-cons h e es))))

alone_size : (v n k : ℕ) → k < n → size_below n (λ j. if k == j then v else 0) ≡ v
alone_size v zero k l = absurd (omega arith)
alone_size v (suc n) k l = by_test (k == n) refl (λ m. alone_size v n k m)
  where
    nothing : (m : ℕ) → m ≤ k → size_below m (λ j. if k == j then v else 0) ≡ 0
    nothing zero h = refl
    nothing (suc m) h =
        let e : (k == m) ≡ false = grind arith in
        omega (arith, ap (λ t. if t then v else 0) e, nothing m (omega arith))

    by_test : (t : Bool) → (k == n) ≡ t → (k < n → size_below n (λ j. if k == j then v else 0) ≡ v) → size_below (suc n) (λ j. if k == j then v else 0) ≡ v
    by_test true e r =
        let same : k ≡ n = grind arith in
        omega (arith, ap (λ t. if t then v else 0) e, nothing n (omega arith))
    by_test false e r =
        let less : k < n = grind arith in
        omega (arith, ap (λ t. if t then v else 0) e, r less)

-- the same of natural numbers
pub by_key_size : {E : Type 0} (g : E → ℕ) (h : E → ℕ) (n : ℕ) (es : List E) → AllByRecursion (λ e. g e < n) es →
    size_below n (λ j. sum_by (λ e. if g e == j then h e else 0) es) ≡ sum_by h es
by_key_size g h n [] l = nothing n
  where
    nothing : (m : ℕ) → size_below m (λ j. 0) ≡ 0
    nothing zero = refl
    nothing (suc m) = omega (arith, nothing m)
by_key_size g h n (e ∷ es) l =
    size_below-same n (λ j. sum_by (λ d. if g d == j then h d else 0) (e ∷ es)) (λ j. (if g e == j then h e else 0) + sum_by (λ d. if g d == j then h d else 0) es)
    (λ j b. sum_by-cons (λ d. if g d == j then h d else 0) e es)
    ∙ (size_below-add n (λ j. if g e == j then h e else 0) (λ j. sum_by (λ d. if g d == j then h d else 0) es)
    ∙ (ap (λ z. z + size_below n (λ j. sum_by (λ d. if g d == j then h d else 0) es)) (alone_size (h e) n (g e) l.0)
    ∙ (ap (λ z. h e + z) (by_key_size g h n es l.1) ∙ sym (sum_by-cons h e es))))
