-- Greatest numbers and sums of natural numbers, item by item.

use Rattle.std.proofs.Common.{arith, refl, sym, ◌≡◌, ℕ, zero, suc, ◌*◌, ◌<◌, ◌≤◌, max, List, [], ◌∷◌, map, length, get_or, ℤ, pos, ◌*ℤ◌}
use Rattle.std.specs.List.{fold}
use Rattle.std.proofs.lemmas.List.{get_or-map, length-map}
use Rattle.std.proofs.Math.IntN.{*ℤ-zero}
use Rattle.base_words.specs.Sums.{number_at}
use Rattle.sp_model.specs.Reaching.{greatest}

start_le : (ns : List ℕ) (a : ℕ) → a ≤ fold max a ns
start_le [] a = omega arith
start_le (n ∷ ns) a = omega (arith, start_le ns (max a n))

item_le : (ns : List ℕ) (a i : ℕ) → i < length ns → get_or ns i 0 ≤ fold max a ns
item_le [] a i h = absurd (omega arith)
item_le (n ∷ ns) a zero h = omega (arith, start_le ns (max a n))
item_le (n ∷ ns) a (suc i) h = item_le ns (max a n) i (omega arith)

-- no image is above the greatest
pub greatest_le : {X : Type 0} (f : X → ℕ) (xs : List X) (i : ℕ) (d : X) → i < length xs → f (get_or xs i d) ≤ greatest (map f xs)
greatest_le f xs i d h = omega (arith, get_or-map f xs i d 0 h, item_le (map f xs) 0 i (omega (arith, length-map xs f)))

-- each number of a list times a factor
pub times_at : (a : ℤ) (xs : List ℤ) (j : ℕ) → number_at (map (λ x. a *ℤ x) xs) j ≡ a *ℤ number_at xs j
times_at a [] j = sym (*ℤ-zero a)
times_at a (x ∷ xs) zero = refl
times_at a (x ∷ xs) (suc j) = times_at a xs j

-- a list of zeros
pub zeros_at : {X : Type 0} (xs : List X) (j : ℕ) → number_at (map (λ x. pos 0) xs) j ≡ pos 0
zeros_at [] j = refl
zeros_at (x ∷ xs) zero = refl
zeros_at (x ∷ xs) (suc j) = zeros_at xs j
