-- Sums and products of numbers up to a cap: a part may be capped before or after.
use Rattle.std.proofs.Common.{arith, ◌≡◌, ◌≤◌, ◌<◌, ◌+◌, ◌*◌, ◌^◌, ℕ, zero, suc, min, max, ap, ◌∙◌, sym, inl, inr}
use Rattle.std.proofs.Math.Nat.{mul_assoc, mul_comm}
use Rattle.std.proofs.lemmas.Bool.{cases_lt}
use Rattle.capped_num.specs.Capped.{cap, capped}

low_case : (a b c : ℕ) → a < c → min (min a c * b) c ≡ min (a * b) c
low_case a b c h = let e : min a c ≡ a = omega arith in ap (λ m. min (m * b) c) e

high_product : (a b c : ℕ) → c ≤ a → min (c * suc b) c ≡ min (a * suc b) c
high_product a b c h =
    let p : c * suc b ≡ c * b + c = omega arith in
    let q : a * suc b ≡ a * b + a = omega arith in
    omega (arith, p, q)

high_case : (a b c : ℕ) → c ≤ a → min (min a c * b) c ≡ min (a * b) c
high_case a zero c h = omega arith
high_case a (suc b) c h =
    let e : min a c ≡ c = omega arith in
    ap (λ m. min (m * suc b) c) e ∙ high_product a b c h

-- a capped factor gives the same capped product
pub cap_factor : (a b c : ℕ) → min (min a c * b) c ≡ min (a * b) c
cap_factor a b c = elim (cases_lt a c) [ inl h ↦ low_case a b c h | inr h ↦ high_case a b c h ]

-- one more factor of a capped product
pub cap_turn : (whole a n rest c : ℕ) → min whole c ≡ min (a * (n * rest)) c → min whole c ≡ min (min (a * n) c * rest) c
cap_turn whole a n rest c e =
    e ∙ (ap (λ m. min m c) (sym (mul_assoc a n rest)) ∙ sym (cap_factor (a * n) rest c))

-- both factors may be capped
pub product_of_capped : (a b x y : ℕ) → x ≡ capped a → y ≡ capped b → capped (x * y) ≡ capped (a * b)
product_of_capped a b x y p q =
    ap (λ m. capped (m * y)) p
    ∙ (cap_factor a y cap
    ∙ (ap capped (mul_comm a y ∙ ap (λ m. m * a) q)
    ∙ (cap_factor b a cap ∙ ap capped (mul_comm b a))))

-- both parts of a sum may be capped
pub sum_of_capped : (a b x y : ℕ) → x ≡ capped a → y ≡ capped b → capped (x + y) ≡ capped (a + b)
sum_of_capped a b x y p q = omega (arith, p, q)

-- the greater one of two capped numbers
pub max_of_capped : (a b x y : ℕ) → x ≡ capped a → y ≡ capped b → max x y ≡ capped (max a b)
max_of_capped a b x y p q = omega (arith, p, q)

-- a number that isn't above the cap
own_capped : (a : ℕ) → a ≤ 2 ^ 127 → a ≡ capped a
own_capped a h = omega (arith, h)
