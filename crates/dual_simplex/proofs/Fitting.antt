-- prices that keep to their shares fit a problem

use Rattle.std.proofs.Common.{ℕ, zero, suc, ◌≡◌, ◌*◌, ◌^◌, ◌<◌, ◌≤◌, List, length, pos, ◌≤ℤ◌, unsigned_abs, arith, mul_comm}
use Rattle.std.proofs.Math.Nat.{le_of_mul-le-mul_right, mul-le-mul}
use Rattle.boxed_problem.specs.Data.{Problem}
use Rattle.boxed_problem.specs.BoxedFacts.{row_size, value_size}
use Rattle.boxed_problem.specs.PriceFit.{FitsPrices, price_part}
use Rattle.base_words.specs.Sums.{number_at, size_below}
use Rattle.boxed_problem.specs.declared.parts.Prices.{Prices}
use Rattle.dual_simplex.specs.Capped.{AreCapped, cap_at}

-- a sum of k numbers, each of which is at most m when taken n times
times_below : (n m : ℕ) (f : ℕ → ℕ) (k : ℕ) → ((i : ℕ) → i < k → f i * n ≤ m) → size_below k f * n ≤ k * m
times_below n m f zero h = grind arith
times_below n m f (suc k) h =
    let front : size_below k f * n ≤ k * m = times_below n m f k (λ i l. h i (omega arith)) in
    let last : f k * n ≤ m = h k (omega arith) in
    grind arith

-- a sum of n numbers, each of which is at most m when taken n times
sum_of_shares : (n m : ℕ) (f : ℕ → ℕ) → ((i : ℕ) → i < n → f i * n ≤ m) → size_below n f ≤ m
sum_of_shares zero m f h = omega arith
sum_of_shares (suc n) m f h =
    let all = times_below (suc n) m f (suc n) h in
    le_of_mul-le-mul_right (rw (mul_comm (suc n) m) at all) (omega arith)

-- prices that keep to caps fit the problem, where the caps are each row's share
pub capped_fit : (b : Problem) (prices : Prices) (caps : List ℕ) → length prices.values ≡ length b.rows → pos 1 ≤ℤ prices.scale → AreCapped b.rows caps prices.values → ((i : ℕ) → i < length b.rows → cap_at caps i * row_size b.columns b.rows b.entries i * length b.rows ≤ 2 ^ 124) → unsigned_abs prices.scale * value_size b.columns b.constant b.line b.square ≤ 2 ^ 124 → FitsPrices b prices
capped_fit b prices caps long scale capped share span =
    let parts : (i : ℕ) → i < length b.rows → price_part b prices i * length b.rows ≤ 2 ^ 124 = λ i l. part_share b prices caps i (capped i l).size (share i l) in
    let sum : size_below (length b.rows) (price_part b prices) ≤ 2 ^ 124 = sum_of_shares (length b.rows) (2 ^ 124) (price_part b prices) parts in
    record { long = long; scale = scale; signs = λ i l. (capped i l).sign; size = omega (arith, span, sum) }
  where
    part_share : (b : Problem) (prices : Prices) (caps : List ℕ) (i : ℕ) → unsigned_abs (number_at prices.values i) ≤ cap_at caps i → cap_at caps i * row_size b.columns b.rows b.entries i * length b.rows ≤ 2 ^ 124 → price_part b prices i * length b.rows ≤ 2 ^ 124
    part_share b prices caps i small share =
        let less : unsigned_abs (number_at prices.values i) * row_size b.columns b.rows b.entries i ≤ cap_at caps i * row_size b.columns b.rows b.entries i = mul-le-mul small (omega arith) in
        let whole : unsigned_abs (number_at prices.values i) * row_size b.columns b.rows b.entries i * length b.rows ≤ cap_at caps i * row_size b.columns b.rows b.entries i * length b.rows = mul-le-mul less (omega arith) in
        omega (arith, whole, share)
