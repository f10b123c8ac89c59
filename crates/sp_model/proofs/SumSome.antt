-- Sums that may be none: a bound term by term is a bound of the sum; one term more.

use Rattle.std.proofs.Common.{arith, refl, ap, add-one, ◌∙◌, ◌≡◌, ℕ, zero, suc, ◌+◌, ◌<◌, ℤ, ◌+ℤ◌, ◌≤ℤ◌, Option, Some, None}
use Rattle.std.proofs.lemmas.Int.{ints}
use Rattle.std.specs.Option.{option_and_then, option_map}
use Rattle.base_words.specs.Sums.{sum_below}
use Rattle.base_words.proofs.FirstAnswers.{same_some}
use Rattle.sp_model.specs.Problems.{sum_some}

-- a sum of terms that are there, and at most those of another sum
pub sum_some-le : (n : ℕ) (f : ℕ → Option ℤ) (g : ℕ → ℤ) (bound : ℤ) → sum_some n f ≡ Some bound → ((k : ℕ) (v : ℤ) → k < n → f k ≡ Some v → v ≤ℤ g k) → bound ≤ℤ sum_below n g
sum_some-le zero f g bound e h = let z = same_some e in omega (arith, ints)
sum_some-le (suc n) f g bound e h = by_front (sum_some n f) refl (f n) refl e (λ v p. sum_some-le n f g v p (λ k w l q. h k w (omega arith) q))
  where
    by_front : (s : Option ℤ) → sum_some n f ≡ s → (t : Option ℤ) → f n ≡ t → option_and_then (λ sum. option_map (λ least. sum +ℤ least) t) s ≡ Some bound → ((v : ℤ) → sum_some n f ≡ Some v → v ≤ℤ sum_below n g) → bound ≤ℤ (sum_below n g +ℤ g n)
    by_front None p t q d r = absurd (let x = d in cc)
    by_front (Some sum) p None q d r = absurd (let x = d in cc)
    by_front (Some sum) p (Some least) q d r =
        let front = r sum p in
        let last = h n least (omega arith) q in
        let whole = same_some d in
        omega (arith, ints)

-- no sum: one of the terms is none
pub sum_some-none : (n : ℕ) (f : ℕ → Option ℤ) → sum_some n f ≡ None → (k : ℕ) × (k < n) × (f k ≡ None)
sum_some-none zero f e = absurd (let x = e in cc)
sum_some-none (suc n) f e = by_front (sum_some n f) refl (f n) refl e (λ p. sum_some-none n f p)
  where
    by_front : (s : Option ℤ) → sum_some n f ≡ s → (t : Option ℤ) → f n ≡ t → option_and_then (λ sum. option_map (λ least. sum +ℤ least) t) s ≡ None → (sum_some n f ≡ None → (k : ℕ) × (k < n) × (f k ≡ None)) → (k : ℕ) × (k < suc n) × (f k ≡ None)
    by_front None p t q d r = let found = r p in (found.0, omega (arith, found.1), found.2)
    by_front (Some sum) p None q d r = (n, omega arith, q)
    by_front (Some sum) p (Some least) q d r = absurd (let x = d in cc)

-- one term more in the sum
pub sum_more : (f : ℕ → Option ℤ) (s : ℕ) (before least : ℤ) → sum_some s f ≡ Some before → f s ≡ Some least → sum_some (s + 1) f ≡ Some (before +ℤ least)
sum_more f s before least sum has =
    ap (λ n. sum_some n f) (add-one s)
    ∙ (ap (option_and_then (λ (so_far : ℤ). option_map (λ next. so_far +ℤ next) (f s))) sum ∙ ap (option_map (λ next. before +ℤ next)) has)
