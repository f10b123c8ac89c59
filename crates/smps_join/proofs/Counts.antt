-- Counting one item more.
use Rattle.std.proofs.Common.{arith, ◌≡◌, ◌≤◌, ◌+◌, ℕ, nat_le, Bool, true, false, cond, refl, List, [], ◌∷◌, ◌++◌, map}
use Rattle.std.specs.List.{count_by}
use Rattle.std.proofs.lemmas.List.Sums.{sum_by-cons}

pub count_cons : {X : Type 0} (p : X → Bool) (x : X) (xs : List X) → count_by p (x ∷ xs) ≡ cond (p x) 1 0 + count_by p xs
count_cons p x xs = sum_by-cons (λ y. cond (p y) 1 0) x xs

pub count_push : {X : Type 0} (p : X → Bool) (xs : List X) (x : X) → count_by p (xs ++ x ∷ []) ≡ count_by p xs + cond (p x) 1 0
count_push p [] x = omega (arith, count_cons p x [])
count_push p (y ∷ xs) x = omega (arith, count_cons p y (xs ++ x ∷ []), count_push p xs x, count_cons p y xs)

pub count_map : {X Y : Type 0} (p : X → Bool) (f : Y → X) (ys : List Y) → count_by p (map f ys) ≡ count_by (λ y. p (f y)) ys
count_map p f [] = refl
count_map p f (y ∷ ys) = omega (arith, count_cons p (f y) (map f ys), count_map p f ys, count_cons (λ z. p (f z)) y ys)

-- a number that isn't below another passes whatever that one passes
pub more_pass : (f j k : ℕ) → j ≤ k → cond (nat_le f j) 1 0 ≤ cond (nat_le f k) 1 0
more_pass f j k h = by_tests (nat_le f j) refl (nat_le f k) refl
  where
    by_tests : (t : Bool) → nat_le f j ≡ t → (u : Bool) → nat_le f k ≡ u → cond t 1 0 ≤ cond u 1 0
    by_tests true p true q = omega arith
    by_tests true p false q = absurd (grind arith)
    by_tests false p true q = omega arith
    by_tests false p false q = omega arith
