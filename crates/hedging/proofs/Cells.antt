-- The places of a table's cells, row after row, and what stands there after a cell has gained.

use Rattle.std.proofs.Common.{arith, refl, sym, ap, ◌∙◌, ◌≡◌, ℕ, zero, suc, ◌+◌, ◌*◌, ◌-◌, ◌<◌, ◌==◌, ◌&&◌, Bool, true, false, List, [], ◌∷◌, ◌++◌, map, length, set, take, drop, ℤ, pos, ◌+ℤ◌, if◌then◌else◌, inl, inr, ◌⊎◌}
use Rattle.std.proofs.lemmas.Bool.{cases_eq, cases_lt}
use Rattle.std.proofs.lemmas.Int.{ints}
use Rattle.std.proofs.lemmas.List.{get_or_default, get_or-drop, get_or-set_other, get_or-set_same, get_or-take, length-drop, length-take-le, take-append-drop}
use Rattle.std.proofs.lemmas.Nat.{mul-add-lt}
use Rattle.std.proofs.Math.Nat.{mul_comm, suc-mul}
use Rattle.std.specs.List.{range_with_len}
use Rattle.base_words.specs.Gathered.{gathered}
use Rattle.base_words.specs.Sums.{number_at}
use Rattle.base_words.proofs.Made.{is_made}
use Rattle.base_words.proofs.NumberTests.{test_from_other, test_from_same}
use Rattle.tree_core.proofs.Listing.{ones}

-- the place of a cell is below that of each cell of a later row
earlier_row : (m a b c d : ℕ) → a < c → b < m → a * m + b < c * m + d
earlier_row m a b c d l h = omega (arith, mul-add-lt a m b c l h, mul_comm m c)

-- cells at one place are of one row and column
same_cell : (m a b c d : ℕ) → b < m → d < m → a * m + b ≡ c * m + d → (a ≡ c) × (b ≡ d)
same_cell m a b c d h k e = elim (cases_lt a c) [
  | inl below ↦ absurd (omega (arith, earlier_row m a b c d below h, e))
  | inr over ↦ elim (cases_lt c a) [
    | inl below ↦ absurd (omega (arith, earlier_row m c d a b below k, e))
    | inr under ↦ same_row (omega arith)
  ]
]
  where
    same_row : a ≡ c → (a ≡ c) × (b ≡ d)
    same_row r = (r, omega (arith, ap (λ i. i * m) r, e))

-- what a number gains where that is due
pub joined : (a b c : Bool) (g x y z : ℤ) → y ≡ x +ℤ (if a then g else pos 0) → z ≡ y +ℤ (if b then g else pos 0) → ones c ≡ ones a + ones b → z ≡ x +ℤ (if c then g else pos 0)
joined true true c g x y z e d f = absurd (at_most c f)
  where
    at_most : (t : Bool) → ones t ≡ 2 → ⊥
    at_most true h = omega arith
    at_most false h = omega arith
joined true false true g x y z e d f = omega (arith, ints, e, d)
joined true false false g x y z e d f = absurd (omega arith)
joined false true true g x y z e d f = omega (arith, ints, e, d)
joined false true false g x y z e d f = absurd (omega arith)
joined false false true g x y z e d f = absurd (omega arith)
joined false false false g x y z e d f = omega (arith, ints, e, d)

-- one cell gains
pub cell_gains : (m n s k u j : ℕ) (xs ys : List ℤ) (g : ℕ → ℕ → ℤ) → length xs ≡ n * m → s < n → k < m → u < n → j < m → ys ≡ set xs (s * m + k) (number_at xs (s * m + k) +ℤ g s k) →
    number_at ys (u * m + j) ≡ number_at xs (u * m + j) +ℤ (if (j == k) && (s == u) then g u j else pos 0)
cell_gains m n s k u j xs ys g long l h v i is = elim (cases_eq (u * m + j) (s * m + k)) [
  | inl here ↦ at_place here (same_cell m u j s k i h here)
  | inr other ↦ elsewhere other
]
  where
    new : ℤ
    new = number_at xs (s * m + k) +ℤ g s k

    at_place : u * m + j ≡ s * m + k → (u ≡ s) × (j ≡ k) → number_at ys (u * m + j) ≡ number_at xs (u * m + j) +ℤ (if (j == k) && (s == u) then g u j else pos 0)
    at_place here (r, c) =
        let within : s * m + k < length xs = omega (arith, mul-add-lt s m k n l h, mul_comm m n, long) in
        let written : number_at ys (u * m + j) ≡ new = ap (λ zs. number_at zs (u * m + j)) is ∙ ap (λ p. number_at (set xs (s * m + k) new) p) here ∙ get_or-set_same xs (s * m + k) new (pos 0) within in
        let both : ((j == k) && (s == u)) ≡ true = ap (λ t. t && (s == u)) (test_from_same j k c) ∙ test_from_same s u (sym r) in
        written
        ∙ ap (λ p. number_at xs p +ℤ g s k) (sym here)
        ∙ ap (λ z. number_at xs (u * m + j) +ℤ z) (ap (λ a. g a k) (sym r) ∙ ap (λ a. g u a) (sym c) ∙ ap (λ t. if t then g u j else pos 0) (sym both))

    elsewhere : (u * m + j ≡ s * m + k → ⊥) → number_at ys (u * m + j) ≡ number_at xs (u * m + j) +ℤ (if (j == k) && (s == u) then g u j else pos 0)
    elsewhere other =
        let kept : number_at ys (u * m + j) ≡ number_at xs (u * m + j) = ap (λ zs. number_at zs (u * m + j)) is ∙ get_or-set_other xs (s * m + k) (u * m + j) new (pos 0) other in
        kept ∙ by_tests (cases_eq j k) (cases_eq s u)
      where
        stays : (t : Bool) → t ≡ false → number_at xs (u * m + j) ≡ number_at xs (u * m + j) +ℤ (if t then g u j else pos 0)
        stays true e = absurd (let f = e in cc)
        stays false e = omega (arith, ints)

        by_tests : (j ≡ k) ⊎ (j ≡ k → ⊥) → (s ≡ u) ⊎ (s ≡ u → ⊥) → number_at xs (u * m + j) ≡ number_at xs (u * m + j) +ℤ (if (j == k) && (s == u) then g u j else pos 0)
        by_tests (inl c) (inl r) = absurd (other (ap (λ a. u * m + a) c ∙ ap (λ a. a * m + k) (sym r)))
        by_tests (inl c) (inr r) = stays ((j == k) && (s == u)) (ap (λ t. t && (s == u)) (test_from_same j k c) ∙ test_from_other s u r)
        by_tests (inr c) r = stays ((j == k) && (s == u)) (ap (λ t. t && (s == u)) (test_from_other j k c))

-- a table is made of the rows whose cells it has
pub table_is : (n m : ℕ) (f : ℕ → ℕ → ℤ) (xs : List ℤ) → length xs ≡ n * m → ((s j : ℕ) → s < n → j < m → number_at xs (s * m + j) ≡ f s j) → xs ≡ gathered n (λ s. map (f s) (range_with_len 0 m))
table_is zero m f [] long each = refl
table_is zero m f (x ∷ xs) long each = absurd (omega (arith, long))
table_is (suc n) m f xs long each =
    let size : length xs ≡ n * m + m = long ∙ omega (arith, suc-mul n m) in
    let front : length (take (n * m) xs) ≡ n * m = length-take-le (n * m) xs (omega (arith, size)) in
    let back : length (drop (n * m) xs) ≡ m = omega (arith, length-drop (n * m) xs, size) in
    let rows = table_is n m f (take (n * m) xs) front (λ s j l h.
    get_or-take (n * m) xs (s * m + j) (pos 0) (omega (arith, mul-add-lt s m j n l h, mul_comm m n)) ∙ each s j (omega arith) h) in
    let last = is_made (drop (n * m) xs) (f n) m back (λ j d h.
    get_or_default (drop (n * m) xs) j d (pos 0) (omega (arith, back, h)) ∙ get_or-drop (n * m) xs j (pos 0) ∙ each n j (omega arith) h) in
    sym (take-append-drop (n * m) xs)
    ∙ ap (λ l. l ++ drop (n * m) xs) rows
    ∙ ap (λ l. gathered n (λ s. map (f s) (range_with_len 0 m)) ++ l) last
