-- A list made row by row: its length, and the item of a row and a column.

use Rattle.std.proofs.Common.{arith, refl, sym, ap, ◌∙◌, ◌≡◌, ℕ, zero, suc, ◌+◌, ◌*◌, ◌-◌, ◌<◌, nat_lt, Bool, true, false, List, map, length, get_or}
use Rattle.std.proofs.lemmas.List.{get_or_append_left, get_or-append_right, length-append}
use Rattle.std.proofs.lemmas.List.FromFn.{get_or-map-range_with_len, length-map-range_with_len}
use Rattle.std.proofs.lemmas.Nat.{mul-add-lt}
use Rattle.std.proofs.Math.Nat.{mul_comm, suc-mul}
use Rattle.std.specs.List.{range_with_len}
use Rattle.base_words.specs.Gathered.{gathered}
use Rattle.base_words.proofs.NumberTests.{less_from_test, not_less_from_test}

-- row s, with the items of m columns
abbrev pub row : {X : Type 0} → ℕ → (ℕ → ℕ → X) → ℕ → List X
row m f s = map (f s) (range_with_len 0 m)

pub cells_length : {X : Type 0} (n m : ℕ) (f : ℕ → ℕ → X) → length (gathered n (row m f)) ≡ n * m
cells_length zero m f = omega arith
cells_length (suc n) m f = omega (arith, length-append (gathered n (row m f)) (row m f n), cells_length n m f, length-map-range_with_len (f n) 0 m, suc-mul n m)

pub cell_at : {X : Type 0} (n m : ℕ) (f : ℕ → ℕ → X) (s j : ℕ) (d : X) → s < n → j < m → get_or (gathered n (row m f)) (s * m + j) d ≡ f s j
cell_at zero m f s j d h k = absurd (omega arith)
cell_at (suc n) m f s j d h k = by_test (nat_lt s n) refl (λ l. cell_at n m f s j d l k)
  where
    by_test : (t : Bool) → nat_lt s n ≡ t → (s < n → get_or (gathered n (row m f)) (s * m + j) d ≡ f s j) → get_or (gathered (suc n) (row m f)) (s * m + j) d ≡ f s j
    by_test true e r =
        let l = less_from_test s n e in
        get_or_append_left (gathered n (row m f)) (row m f n) d (s * m + j) (omega (arith, cells_length n m f, mul-add-lt s m j n l k, mul_comm n m)) ∙ r l
    by_test false e r =
        let over = not_less_from_test s n e in
        let same : s ≡ n = omega arith in
        let at : get_or (gathered (suc n) (row m f)) (n * m + j) d ≡ get_or (row m f n) (n * m + j - n * m) d = get_or-append_right (gathered n (row m f)) (row m f n) (n * m) (n * m + j) d (cells_length n m f) (omega arith) in
        ap (λ i. get_or (gathered (suc n) (row m f)) (i * m + j) d) same
        ∙ at
        ∙ get_or-map-range_with_len (f n) 0 m (n * m + j - n * m) j d (omega arith) (omega arith)
        ∙ ap (λ i. f i j) (sym same)
