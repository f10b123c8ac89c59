-- sums over the numbers below n, and over a list that has each of these numbers once.

use Rattle.std.proofs.Common.{arith, refl, sym, ap, append-nil, subst, ◌∙◌, ◌≡◌, ℕ, zero, suc, ◌+◌, ◌<◌, ◌≤◌, ◌==◌, Bool, true, false, cond, List, [], ◌∷◌, ◌++◌, take, ℤ, pos, ◌+ℤ◌, ◌*ℤ◌}
use Rattle.std.proofs.lemmas.Int.{ints}
use Rattle.std.proofs.lemmas.List.Sums.{sum_by-cons}
use Rattle.std.specs.List.{AllByRecursion, count_by, flat_map, range_with_len}
use Rattle.base_words.specs.ListSums.{sum_z}
use Rattle.base_words.specs.Sums.{sum_below}
use Rattle.base_words.proofs.ListSums.{sum_z-cons, sum_z-push}
use Rattle.base_words.proofs.Products.{sum_times, times_one, zero_times}
use Rattle.std.proofs.lemmas.Grind.{flat_map-append}
use Rattle.std.proofs.Math.IntN.{*ℤ_comm}

-- one number more at the end of a range
pub range_more : (a n : ℕ) → range_with_len a (suc n) ≡ range_with_len a n ++ (a + n) ∷ []
range_more a zero = let e : a + zero ≡ a = omega arith in ap (λ m. m ∷ []) (sym e)
range_more a (suc n) = let e : a + 1 + n ≡ a + suc n = omega arith in ap (λ ms. a ∷ ms) (range_more (a + 1) n ∙ ap (λ m. range_with_len (a + 1) n ++ m ∷ []) e)

-- lists gathered over the numbers from 1 on, one more
pub flat_map-more : {X : Type 0} (f : ℕ → List X) (n : ℕ) → flat_map f (range_with_len 1 (suc n)) ≡ flat_map f (range_with_len 1 n) ++ f (suc n)
flat_map-more f n =
    let e : 1 + n ≡ suc n = omega arith in
    ap (flat_map f) (range_more 1 n ∙ ap (λ m. range_with_len 1 n ++ m ∷ []) e) ∙ flat_map-append f (range_with_len 1 n) (suc n ∷ []) ∙ ap (λ l. flat_map f (range_with_len 1 n) ++ l) (append-nil (f (suc n)))

pub flat_map-next : {X : Type 0} (f : ℕ → List X) (n : ℕ) → flat_map f (range_with_len 1 (n + 1)) ≡ flat_map f (range_with_len 1 n) ++ f (n + 1)
flat_map-next f n = let e : suc n ≡ n + 1 = omega arith in let P : ℕ → Type 0 = λ m. flat_map f (range_with_len 1 m) ≡ flat_map f (range_with_len 1 n) ++ f m in subst P e (flat_map-more f n)

-- the sum over the numbers below n is the sum over the list of them
pub sum_below_is : (n : ℕ) (f : ℕ → ℤ) → sum_below n f ≡ sum_z f (range_with_len 0 n)
sum_below_is zero f = refl
sum_below_is (suc n) f =
    let e : 0 + n ≡ n = omega arith in
    ap (λ z. z +ℤ f n) (sum_below_is n f)
    ∙ sym (ap (sum_z f) (range_more 0 n ∙ ap (λ m. range_with_len 0 n ++ m ∷ []) e) ∙ sum_z-push f (range_with_len 0 n) n)

pub sum_below-add : (n : ℕ) (f g : ℕ → ℤ) → sum_below n (λ k. f k +ℤ g k) ≡ sum_below n f +ℤ sum_below n g
sum_below-add zero f g = refl
sum_below-add (suc n) f g = omega (arith, ints, sum_below-add n f g)

-- equal at each number below n
pub sum_below-same : (n : ℕ) (f g : ℕ → ℤ) → ((k : ℕ) → k < n → f k ≡ g k) → sum_below n f ≡ sum_below n g
sum_below-same zero f g h = refl
sum_below-same (suc n) f g h = omega (arith, ints, h n (omega arith), sum_below-same n f g (λ k l. h k (omega arith)))

pub sum_below-zero : (n : ℕ) → sum_below n (λ k. pos 0) ≡ pos 0
sum_below-zero zero = refl
sum_below-zero (suc n) = omega (arith, ints, sum_below-zero n)

-- f at one number, and 0 at all others
abbrev pub only_at : (ℕ → ℤ) → ℕ → ℕ → ℤ
only_at f y k = cond (y == k) (f k) (pos 0)

only_at-before : (f : ℕ → ℤ) (y n : ℕ) → n < y + 1 → sum_below n (only_at f y) ≡ pos 0
only_at-before f y zero h = refl
only_at-before f y (suc n) h =
    let e : (y == n) ≡ false = grind arith in
    let p = ap (λ t. cond t (f n) (pos 0)) e in
    omega (arith, ints, p, only_at-before f y n (omega arith))

-- of f at one number the sum is f there
pub only_at-sum : (f : ℕ → ℤ) (y n : ℕ) → y < n → sum_below n (only_at f y) ≡ f y
only_at-sum f y zero h = absurd (omega arith)
only_at-sum f y (suc n) h = by_last (y == n) refl (λ l. only_at-sum f y n l)
  where
    by_last : (t : Bool) → (y == n) ≡ t → (y < n → sum_below n (only_at f y) ≡ f y) → sum_below n (only_at f y) +ℤ only_at f y n ≡ f y
    by_last true e r =
        let s : y ≡ n = grind arith in
        let p = ap (λ t. cond t (f n) (pos 0)) e in
        omega (arith, ints, p, only_at-before f y n (omega arith), ap f s)
    by_last false e r =
        let s : y < n = grind arith in
        let p = ap (λ t. cond t (f n) (pos 0)) e in
        omega (arith, ints, p, r s)

-- how often a number stands in a list
abbrev times_in : ℕ → List ℕ → ℕ
times_in k ys = count_by (λ y. y == k) ys

-- f as often as the number stands in the list
abbrev times_of : (ℕ → ℤ) → List ℕ → ℕ → ℤ
times_of f ys k = pos (times_in k ys) *ℤ f k

times_of-cons : (f : ℕ → ℤ) (y : ℕ) (ys : List ℕ) (k : ℕ) → times_of f (y ∷ ys) k ≡ only_at f y k +ℤ times_of f ys k
times_of-cons f y ys k =
    ap (λ m. pos m *ℤ f k) (sum_by-cons (λ x. cond (x == k) 1 0) y ys) ∙ by_test (y == k)
  where
    by_test : (t : Bool) → pos (cond t 1 0 + times_in k ys) *ℤ f k ≡ cond t (f k) (pos 0) +ℤ pos (times_in k ys) *ℤ f k
    by_test true = sum_times (pos 1) (pos (times_in k ys)) (f k) ∙ ap (λ z. z +ℤ pos (times_in k ys) *ℤ f k) (*ℤ_comm (pos 1) (f k) ∙ times_one (f k))
    by_test false = sum_times (pos 0) (pos (times_in k ys)) (f k) ∙ ap (λ z. z +ℤ pos (times_in k ys) *ℤ f k) (zero_times (f k))

-- the sum over a list of numbers below n, number by number
by_times : (f : ℕ → ℤ) (n : ℕ) (ys : List ℕ) → AllByRecursion (λ y. y < n) ys → sum_z f ys ≡ sum_below n (times_of f ys)
by_times f n [] h = sym (sum_below-same n (times_of f []) (λ k. pos 0) (λ k l. zero_times (f k)) ∙ sum_below-zero n)
by_times f n (y ∷ ys) h =
    sum_z-cons f y ys
    ∙ ap (λ z. f y +ℤ z) (by_times f n ys h.1)
    ∙ ap (λ z. z +ℤ sum_below n (times_of f ys)) (sym (only_at-sum f y n h.0))
    ∙ sym (sum_below-add n (only_at f y) (times_of f ys))
    ∙ sym (sum_below-same n (times_of f (y ∷ ys)) (λ k. only_at f y k +ℤ times_of f ys k) (λ k l. times_of-cons f y ys k))

-- a list that has each number below n once, and no other, sums as these numbers
pub sum_below_once : (f : ℕ → ℤ) (n : ℕ) (ys : List ℕ) → AllByRecursion (λ y. y < n) ys → ((k : ℕ) → k < n → count_by (λ y. y == k) ys ≡ 1) → sum_below n f ≡ sum_z f ys
sum_below_once f n ys below once =
    sym (by_times f n ys below ∙ sum_below-same n (times_of f ys) f (λ k l. ap (λ m. pos m *ℤ f k) (once k l) ∙ *ℤ_comm (pos 1) (f k) ∙ times_one (f k)))

-- the first numbers of a range
pub take_range : (a n k : ℕ) → k ≤ n → take k (range_with_len a n) ≡ range_with_len a k
take_range a n zero h = refl
take_range a zero (suc k) h = absurd (omega arith)
take_range a (suc n) (suc k) h = ap (λ xs. a ∷ xs) (take_range (a + 1) n k (omega arith))
