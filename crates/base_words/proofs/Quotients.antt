-- The quotient rounded down by a positive number.
use Rattle.std.proofs.Common.{arith, mul_comm, subst, unsigned_abs, ℕ, ◌+◌, ◌*◌, ◌/◌, ◌<◌, ◌≤◌, ℤ, pos, negsuc, ◌+ℤ◌, ◌*ℤ◌, ◌≤ℤ◌, ◌<ℤ◌}
use Rattle.std.proofs.Math.Nat.{div-le_of_le-mul, div-lt_iff_lt-mul}
use Rattle.std.proofs.lemmas.Int.{ints}
use Rattle.std.specs.Int.{int_div_euclid}

pub quotient : (a b : ℕ) → 0 < b → ((a / b) * b ≤ a) × (a < (a / b) * b + b)
quotient a b h = (grind arith, grind arith)

-- it is the greatest number whose product is at most the dividend
pub floor_is : (a : ℤ) (b : ℕ) → 0 < b
    → ((int_div_euclid a (pos b) *ℤ pos b) ≤ℤ a)
    × (a <ℤ ((int_div_euclid a (pos b) *ℤ pos b) +ℤ pos b))
floor_is (pos a) b h = let d = quotient a b h in (omega (arith, ints), omega (arith, ints))
floor_is (negsuc a) b h = let d = quotient a b h in (omega (arith, ints), omega (arith, ints))

-- of a number of at most n times b it is at most n
pub floor_small : (a : ℤ) (b n : ℕ) → 0 < b → unsigned_abs a ≤ n * b → unsigned_abs (int_div_euclid a (pos b)) ≤ n
floor_small (pos a) b n some most = div-le_of_le-mul b (subst (λ c. a ≤ c) (mul_comm n b) most)
floor_small (negsuc a) b n some most = (div-lt_iff_lt-mul some).1 most
