-- powers of ten as factors and divisors
use Rattle.std.proofs.Common.{◌≡◌, ℕ, ◌+◌, ◌-◌, ◌*◌, ◌/◌, ◌%◌, ◌^◌, ◌<◌, ◌≤◌, sym, ap, ◌∙◌, arith}
use Rattle.std.proofs.lemmas.Nat.{pow-add}
use Rattle.std.proofs.Math.Nat.{one-le-pow, mul-div_cancel, mul-mod_right, mul_assoc, mul_comm, le-mul_of_pos_right, pow-le-pow_right}

-- a power of ten is at least one
pub power_positive : (k : ℕ) → 0 < 10 ^ k
power_positive k = one-le-pow k 10 (omega arith)

-- a power of ten cancels
pub power_cancels : (a b k : ℕ) → a * 10 ^ k ≡ b * 10 ^ k → a ≡ b
power_cancels a b k e =
    sym (mul-div_cancel a (power_positive k)) ∙ ap (λ n. n / 10 ^ k) e ∙ mul-div_cancel b (power_positive k)

-- two powers of ten as one
pub powers_joined : (a i j k : ℕ) → i + j ≡ k → a * 10 ^ i * 10 ^ j ≡ a * 10 ^ k
powers_joined a i j k e = mul_assoc a (10 ^ i) (10 ^ j) ∙ ap (λ n. a * n) (sym (pow-add 10 i j) ∙ ap (λ n. 10 ^ n) e)

-- a number times a power of ten that isn't 1 ends in 0
pub ends_in_zero : (a k : ℕ) → 0 < k → (a * 10 ^ k) % 10 ≡ 0
ends_in_zero a k h =
    ap (λ n. n % 10) (sym (powers_joined a (k - 1) 1 k (omega arith)) ∙ mul_comm (a * 10 ^ (k - 1)) 10) ∙ mul-mod_right 10 (a * 10 ^ (k - 1))

-- a power of ten makes no number less
pub not_less : (a k : ℕ) → a ≤ a * 10 ^ k
not_less a k = le-mul_of_pos_right a (power_positive k)

-- a positive number times a power of ten from 10^37 on is at least 10^37
pub far_up : (a k : ℕ) → 0 < a → 37 ≤ k → 10 ^ 37 ≤ a * 10 ^ k
far_up a k h g =
    let p : 10 ^ 37 ≤ 10 ^ k = pow-le-pow_right (omega arith) g in
    let q : 10 ^ k ≤ 10 ^ k * a = le-mul_of_pos_right (10 ^ k) h in
    omega (arith, mul_comm a (10 ^ k))
