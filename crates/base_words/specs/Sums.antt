-- sums over the numbers below n, and the numbers that such a sum reads from a list

use Rattle.std.specs.Prelude.{ℕ, zero, suc, ◌+◌, List, ℤ, pos, ◌+ℤ◌, slice_index_or}

-- the sum of f at 0 to n - 1
abbrev pub sum_below : ℕ → (ℕ → ℤ) → ℤ
sum_below zero f = pos 0
sum_below (suc n) f = sum_below n f +ℤ f n

-- the same of natural numbers
abbrev pub size_below : ℕ → (ℕ → ℕ) → ℕ
size_below zero f = 0
size_below (suc n) f = size_below n f + f n

-- the number at a place of a list, and 0 past its end
abbrev pub number_at : List ℤ → ℕ → ℤ
number_at xs j = slice_index_or xs j (pos 0)
