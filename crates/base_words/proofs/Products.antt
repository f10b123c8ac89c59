-- products of signed numbers with sums, and how they keep an order

use Rattle.std.proofs.Common.{arith, ap, ◌∙◌, ◌≡◌, ℕ, zero, suc, ℤ, pos, negsuc, ◌+ℤ◌, ◌*ℤ◌, ◌≤ℤ◌}
use Rattle.std.proofs.lemmas.Int.{ints, clamps}
use Rattle.std.proofs.Math.IntN.{one, *ℤ-one, *ℤ-zero, *ℤ_comm, suc_ℤ-*ℤ, pred_ℤ-*ℤ}
use Rattle.std.specs.Int.{int_max, int_min}

pub zero_times : (a : ℤ) → (pos 0 *ℤ a) ≡ pos 0
zero_times a = *ℤ_comm (pos 0) a ∙ *ℤ-zero a

pub times_one : (a : ℤ) → (a *ℤ pos 1) ≡ a
unfolding one
times_one a = *ℤ-one a

-- a product with a sum
pub times_sum : (a b c : ℤ) → (a *ℤ (b +ℤ c)) ≡ ((a *ℤ b) +ℤ (a *ℤ c))
times_sum (pos zero) b c = omega (arith, ints, zero_times (b +ℤ c), zero_times b, zero_times c)
times_sum (pos (suc n)) b c = omega (arith, ints, suc_ℤ-*ℤ (pos n) (b +ℤ c), suc_ℤ-*ℤ (pos n) b, suc_ℤ-*ℤ (pos n) c, times_sum (pos n) b c)
times_sum (negsuc zero) b c =
    omega (arith, ints, pred_ℤ-*ℤ (pos 0) (b +ℤ c), pred_ℤ-*ℤ (pos 0) b, pred_ℤ-*ℤ (pos 0) c, zero_times (b +ℤ c), zero_times b, zero_times c)
times_sum (negsuc (suc n)) b c = omega (arith, ints, pred_ℤ-*ℤ (negsuc n) (b +ℤ c), pred_ℤ-*ℤ (negsuc n) b, pred_ℤ-*ℤ (negsuc n) c, times_sum (negsuc n) b c)

-- a sum times a number
pub sum_times : (a b c : ℤ) → ((a +ℤ b) *ℤ c) ≡ ((a *ℤ c) +ℤ (b *ℤ c))
sum_times a b c = *ℤ_comm (a +ℤ b) c ∙ (times_sum c a b ∙ (ap (λ z. z +ℤ (c *ℤ b)) (*ℤ_comm c a) ∙ ap (λ z. (a *ℤ c) +ℤ z) (*ℤ_comm c b)))

-- a natural number times both keeps the order
pub times_order : (n : ℕ) (x y : ℤ) → x ≤ℤ y → (pos n *ℤ x) ≤ℤ (pos n *ℤ y)
times_order zero x y h = omega (arith, ints, zero_times x, zero_times y)
times_order (suc n) x y h = omega (arith, ints, suc_ℤ-*ℤ (pos n) x, suc_ℤ-*ℤ (pos n) y, times_order n x y h)

-- a negative number times both turns it
pub times_turn : (n : ℕ) (x y : ℤ) → x ≤ℤ y → (negsuc n *ℤ y) ≤ℤ (negsuc n *ℤ x)
times_turn zero x y h = omega (arith, ints, pred_ℤ-*ℤ (pos 0) x, pred_ℤ-*ℤ (pos 0) y, zero_times x, zero_times y)
times_turn (suc n) x y h = omega (arith, ints, pred_ℤ-*ℤ (negsuc n) x, pred_ℤ-*ℤ (negsuc n) y, times_turn n x y h)

-- a product lies between those at the ends
pub times_between : (a l u x : ℤ) → l ≤ℤ x → x ≤ℤ u → (int_min (a *ℤ l) (a *ℤ u) ≤ℤ (a *ℤ x)) × ((a *ℤ x) ≤ℤ int_max (a *ℤ l) (a *ℤ u))
times_between (pos n) l u x h k =
    let p = times_order n l x h in
    let q = times_order n x u k in
    (omega (arith, ints, clamps), omega (arith, ints, clamps))
times_between (negsuc n) l u x h k =
    let p = times_turn n l x h in
    let q = times_turn n x u k in
    (omega (arith, ints, clamps), omega (arith, ints, clamps))

-- the square of the next number
pub square_next : (x : ℤ) → ((x +ℤ pos 1) *ℤ (x +ℤ pos 1)) ≡ ((x *ℤ x) +ℤ ((x +ℤ x) +ℤ pos 1))
square_next x =
    let p = times_sum (x +ℤ pos 1) x (pos 1) in
    let q = sum_times x (pos 1) x in
    let r = times_one (x +ℤ pos 1) in
    let s = *ℤ_comm (pos 1) x ∙ times_one x in
    omega (arith, ints, p, q, r, s)
