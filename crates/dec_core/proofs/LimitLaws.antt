-- what is within the limits of a decimal
use Rattle.std.proofs.Common.{◌≡◌, ℕ, ◌+◌, ◌-◌, ◌*◌, ◌^◌, ◌<◌, ◌≤◌, Bool, ◌⊎◌, inl, inr, min, Ok, Err, ap, arith}
use Rattle.std.proofs.lemmas.Bool.{cases_lt}
use Rattle.std.proofs.lemmas.Bool.Decides.{nat_tests}
use Rattle.base_words.specs.Signs.{signed}
use Rattle.dec_core.specs.DecimalValue.{within_limits}
use Rattle.dec_core.specs.declared.decimal.Decimal.{Decimal}
use Rattle.dec_core.specs.declared.decimal.DecFault.TheVariants.{TooManyPlaces, TooLarge}
use Rattle.dec_core.specs.Stripped.{max_significand, max_exponent}
use Rattle.dec_core.proofs.Powers.{far_up}

-- the limits see numbers above them as one
limits_agree : (n : Bool) (m p k q : ℕ) → (p ≤ 9 → q ≡ p) → (9 < p → 9 < q) → (m ≤ 10 ^ 36 → k ≡ m) → (10 ^ 36 < m → 10 ^ 36 < k) → within_limits n m p ≡ within_limits n k q
limits_agree n m p k q a b c d = grind (arith, nat_tests)

-- equal powers of ten, or two that are far up, leave products that the limits see as one
product_agrees : (v k q : ℕ) → 0 < v → (k ≡ q) ⊎ ((37 ≤ k) × (37 ≤ q)) → (v * 10 ^ k ≤ 10 ^ 36 → min (v * 10 ^ q) max_significand ≡ v * 10 ^ k) × (10 ^ 36 < v * 10 ^ k → 10 ^ 36 < min (v * 10 ^ q) max_significand)
product_agrees v k q h (inl e) =
    let f : v * 10 ^ k ≡ v * 10 ^ q = ap (λ n. v * 10 ^ n) e in
    (λ g. omega arith, λ g. omega arith)
product_agrees v k q h (inr (a, b)) =
    let f = far_up v k h a in
    let g = far_up v q h b in
    (λ l. absurd (omega arith), λ l. omega arith)

-- a capped exponent leaves the same power of ten above, or one as far up
power_agrees : (z f r d : ℕ) → z ≤ 2 ^ 65 → f < 2 ^ 64 → min r d ≡ 0 → (z + r - (f + d) ≡ z + min r max_exponent - (f + min d max_exponent)) ⊎ ((37 ≤ z + r - (f + d)) × (37 ≤ z + min r max_exponent - (f + min d max_exponent)))
power_agrees z f r d b c e =
    elim (cases_lt max_exponent r) as (λ _. (z + r - (f + d) ≡ z + min r max_exponent - (f + min d max_exponent)) ⊎ ((37 ≤ z + r - (f + d)) × (37 ≤ z + min r max_exponent - (f + min d max_exponent)))) [
      | inl h ↦ inr (omega arith, omega arith)
      | inr h ↦ inl (omega arith)
    ]

-- what capped exponents and a capped product leave is within the limits where the true ones are
pub caps_agree : (n : Bool) (v z f r d : ℕ) → 0 < v → z ≤ 2 ^ 65 → f < 2 ^ 64 → min r d ≡ 0 → within_limits n (v * 10 ^ (z + r - (f + d))) (f + d - (z + r)) ≡ within_limits n (min (v * 10 ^ (z + min r max_exponent - (f + min d max_exponent))) max_significand) (f + min d max_exponent - (z + min r max_exponent))
caps_agree n v z f r d a b c e =
    let p = product_agrees v (z + r - (f + d)) (z + min r max_exponent - (f + min d max_exponent)) a (power_agrees z f r d b c e) in
    limits_agree n (v * 10 ^ (z + r - (f + d))) (f + d - (z + r)) (min (v * 10 ^ (z + min r max_exponent - (f + min d max_exponent))) max_significand) (f + min d max_exponent - (z + min r max_exponent))
    (λ h. omega arith) (λ h. omega arith) p.0 p.1

-- what is within the limits
pub within_is : (n : Bool) (m p : ℕ) (d : Decimal) → within_limits n m p ≡ Ok d → (p ≤ 9) × (m ≤ 10 ^ 36) × (d ≡ record { mantissa = signed n m; places = p })
within_is n m p d e =
    elim (cases_lt 9 p) as (λ _. (p ≤ 9) × (m ≤ 10 ^ 36) × (d ≡ record { mantissa = signed n m; places = p })) [
      | inl h ↦ (let f : within_limits n m p ≡ Err TooManyPlaces = grind (arith, nat_tests) in absurd (cc))
      | inr h ↦ elim (cases_lt (10 ^ 36) m) as (λ _. (p ≤ 9) × (m ≤ 10 ^ 36) × (d ≡ record { mantissa = signed n m; places = p })) [
        | inl g ↦ (let f : within_limits n m p ≡ Err (TooLarge n) = grind (arith, nat_tests) in absurd (cc))
        | inr g ↦ (let f : within_limits n m p ≡ Ok (record { mantissa = signed n m; places = p }) = grind (arith, nat_tests) in (h, g, cc))
      ]
    ]
