-- laws of sums over a list: of parts, of sums and products, term by term, and of two sums in either order.

use Rattle.std.proofs.Common.{arith, refl, sym, ap, ◌∙◌, ◌≡◌, ℕ, ◌+◌, ◌<◌, List, [], ◌∷◌, ◌++◌, length, get_or, take, ℤ, pos, ◌+ℤ◌, ◌*ℤ◌}
use Rattle.std.proofs.lemmas.Int.{ints}
use Rattle.std.proofs.Math.IntN.{*ℤ-zero}
use Rattle.std.proofs.lemmas.List.Sums.{fold_more}
use Rattle.std.specs.List.{fold, AllByRecursion}
use Rattle.base_words.specs.ListSums.{sum_z}
use Rattle.base_words.proofs.Products.{sum_times, times_sum, zero_times}

-- a sum begun at another number than 0
pub sum_z-begun : {A : Type 0} (f : A → ℤ) (a : ℤ) (xs : List A) → fold (λ sum x. sum +ℤ f x) a xs ≡ a +ℤ sum_z f xs
sum_z-begun f a [] = omega (arith, ints)
sum_z-begun f a (x ∷ xs) =
    let p = sum_z-begun f (a +ℤ f x) xs in
    let q = sum_z-begun f (pos 0 +ℤ f x) xs in
    omega (arith, ints, p, q)

-- the sum with one more item in front
pub sum_z-cons : {A : Type 0} (f : A → ℤ) (x : A) (xs : List A) → sum_z f (x ∷ xs) ≡ f x +ℤ sum_z f xs
sum_z-cons f x xs = omega (arith, ints, sum_z-begun f (pos 0 +ℤ f x) xs)

pub sum_z-append : {A : Type 0} (f : A → ℤ) (xs ys : List A) → sum_z f (xs ++ ys) ≡ sum_z f xs +ℤ sum_z f ys
sum_z-append f [] ys = omega (arith, ints)
sum_z-append f (x ∷ xs) ys = omega (arith, ints, sum_z-cons f x (xs ++ ys), sum_z-cons f x xs, sum_z-append f xs ys)

-- one more item at the end
pub sum_z-push : {A : Type 0} (f : A → ℤ) (xs : List A) (x : A) → sum_z f (xs ++ x ∷ []) ≡ sum_z f xs +ℤ f x
sum_z-push f xs x = omega (arith, ints, sum_z-append f xs (x ∷ []), sum_z-cons f x [])

pub sum_z-add : {A : Type 0} (f g : A → ℤ) (xs : List A) → sum_z (λ x. f x +ℤ g x) xs ≡ sum_z f xs +ℤ sum_z g xs
sum_z-add f g [] = omega (arith, ints)
sum_z-add f g (x ∷ xs) = omega (arith, ints, sum_z-cons (λ y. f y +ℤ g y) x xs, sum_z-cons f x xs, sum_z-cons g x xs, sum_z-add f g xs)

pub sum_z-zero : {A : Type 0} (xs : List A) → sum_z (λ x. pos 0) xs ≡ pos 0
sum_z-zero [] = refl
sum_z-zero {A} (x ∷ xs) = omega (arith, ints, sum_z-cons {A = A} (λ y. pos 0) x xs, sum_z-zero xs)

-- a number times a sum
pub sum_z-times : {A : Type 0} (c : ℤ) (f : A → ℤ) (xs : List A) → sum_z (λ x. c *ℤ f x) xs ≡ c *ℤ sum_z f xs
sum_z-times c f [] = sym (*ℤ-zero c)
sum_z-times c f (x ∷ xs) =
    sum_z-cons (λ y. c *ℤ f y) x xs
    ∙ ap (λ z. (c *ℤ f x) +ℤ z) (sum_z-times c f xs)
    ∙ sym (times_sum c (f x) (sum_z f xs))
    ∙ ap (λ z. c *ℤ z) (sym (sum_z-cons f x xs))

-- a sum times a number
pub sum_z-by : {A : Type 0} (f : A → ℤ) (c : ℤ) (xs : List A) → (sum_z f xs *ℤ c) ≡ sum_z (λ x. f x *ℤ c) xs
sum_z-by f c [] = zero_times c
sum_z-by f c (x ∷ xs) =
    ap (λ z. z *ℤ c) (sum_z-cons f x xs)
    ∙ (sum_times (f x) (sum_z f xs) c ∙ (ap (λ z. (f x *ℤ c) +ℤ z) (sum_z-by f c xs) ∙ sym (sum_z-cons (λ y. f y *ℤ c) x xs)))

-- equal item by item
pub sum_z-same : {A : Type 0} (f g : A → ℤ) (xs : List A) → AllByRecursion (λ x. f x ≡ g x) xs → sum_z f xs ≡ sum_z g xs
sum_z-same f g [] h = refl
sum_z-same f g (x ∷ xs) h = omega (arith, ints, sum_z-cons f x xs, sum_z-cons g x xs, h.0, sum_z-same f g xs h.1)

-- the sum of a row and of the rows behind it, column by column
by_columns : {A B : Type 0} (f : A → B → ℤ) (x : A) (xs : List A) (ys : List B) → sum_z (λ y. f x y +ℤ sum_z (λ w. f w y) xs) ys ≡ sum_z (λ y. sum_z (λ w. f w y) (x ∷ xs)) ys
by_columns f x xs [] = refl
by_columns f x xs (y ∷ ys) =
    omega (arith, ints, sum_z-cons (λ z. f x z +ℤ sum_z (λ w. f w z) xs) y ys, sum_z-cons (λ z. sum_z (λ w. f w z) (x ∷ xs)) y ys, sum_z-cons (λ w. f w y) x xs, by_columns f x xs ys)

-- two sums in either order
pub sum_z-swap : {A B : Type 0} (f : A → B → ℤ) (xs : List A) (ys : List B) → sum_z (λ x. sum_z (λ y. f x y) ys) xs ≡ sum_z (λ y. sum_z (λ x. f x y) xs) ys
sum_z-swap f [] ys = sym (sum_z-zero ys)
sum_z-swap f (x ∷ xs) ys =
    sum_z-cons (λ w. sum_z (λ y. f w y) ys) x xs
    ∙ ap (λ z. sum_z (λ y. f x y) ys +ℤ z) (sum_z-swap f xs ys)
    ∙ sym (sum_z-add (λ y. f x y) (λ y. sum_z (λ w. f w y) xs) ys)
    ∙ by_columns f x xs ys

-- the sum over one item more, as in a loop
pub sum_z-more : {A : Type 0} (f : A → ℤ) (xs : List A) (i : ℕ) (d : A) → i < length xs → sum_z f (take (i + 1) xs) ≡ sum_z f (take i xs) +ℤ f (get_or xs i d)
sum_z-more f xs i d h = fold_more (λ sum x. sum +ℤ f x) (pos 0) xs i d h
