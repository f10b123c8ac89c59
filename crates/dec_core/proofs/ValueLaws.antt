-- a spelling has exactly one value with the fewest places
use Rattle.std.proofs.Common.{◌≡◌, ◌≢◌, ℕ, ◌+◌, ◌-◌, ◌*◌, ◌/◌, ◌%◌, ◌^◌, ◌<◌, ◌≤◌, true, false, not, refl, zero-add, inl, inr, get_or, sym, ap, ◌∙◌, arith}
use Rattle.std.specs.List.{range_with_len}
use Rattle.std.specs.Str.Parse.{digits_value}
use Rattle.std.proofs.lemmas.Bool.{cases_lt, false≢true}
use Rattle.std.proofs.lemmas.Bool.Decides.{nat_tests}
use Rattle.std.proofs.lemmas.List.FromFn.{get_or-range_with_len, length-range_with_len}
use Rattle.std.proofs.lemmas.List.Sums.{fails_before_first, passes_at_first, prefix_len-le-length}
use Rattle.std.proofs.lemmas.Nat.Gcd.{dvd_of_mod-eq-zero}
use Rattle.std.proofs.Math.Nat.{mul-mod_right, mul_comm, mul_right_comm, div-mul_cancel, zero-mul}
use Rattle.dec_core.specs.Spelling.{Spelling}
use Rattle.dec_core.specs.DecimalValue.{IsMagnitude, IsValue, are_enough, places_of, mantissa_of}
use Rattle.dec_core.proofs.Powers.{power_cancels, powers_joined, ends_in_zero}

-- a product with a power of ten leaves nothing behind over that power
none_left : (a k : ℕ) → (a * 10 ^ k) % 10 ^ k ≡ 0
none_left a k = ap (λ n. n % 10 ^ k) (mul_comm a (10 ^ k)) ∙ mul-mod_right (10 ^ k) a

-- two values of one spelling are one
pub one_value : (s : Spelling) (m p n q : ℕ) → IsValue s m p → IsValue s n q → (m ≡ n) × (p ≡ q)
one_value s m p n q a b =
    let e : p ≡ q = omega (arith, a.fewest n q b.exact, b.fewest m p a.exact) in
    (power_cancels m n s.lowered (a.exact ∙ ap (λ k. digits_value 10 s.digits * 10 ^ s.raised * 10 ^ k) e ∙ sym b.exact), e)

-- the test of whether p places are enough passes
enough : (s : Spelling) (n p : ℕ) → IsMagnitude s n p → are_enough s p ≡ true
enough s n p e =
    let z : (digits_value 10 s.digits * 10 ^ s.raised * 10 ^ p) % 10 ^ s.lowered ≡ 0 =
    ap (λ k. k % 10 ^ s.lowered) (sym e) ∙ none_left n s.lowered in
    grind (arith, nat_tests)

-- what the test says
enough_is : (s : Spelling) (p : ℕ) → are_enough s p ≡ true → (digits_value 10 s.digits * 10 ^ s.raised * 10 ^ p) % 10 ^ s.lowered ≡ 0
enough_is s p e = grind (arith, nat_tests)

-- the search for the places goes through 0, 1, .. below the power of ten below
places_among : (s : Spelling) → places_of s ≤ s.lowered
unfolding places_of
places_among s = omega (arith, prefix_len-le-length (λ p. not (are_enough s p)) (range_with_len 0 s.lowered), length-range_with_len 0 s.lowered)

-- a place of that search is its number
place_is : (n q : ℕ) → q < n → get_or (range_with_len 0 n) q 0 ≡ q
place_is n q h = get_or-range_with_len 0 n q 0 h ∙ zero-add q

-- fewer places are not enough
fewer : (s : Spelling) (q : ℕ) → q < places_of s → are_enough s q ≡ false
unfolding places_of
fewer s q h =
    let below : q < s.lowered = omega (arith, places_among s) in
    sym (ap (are_enough s) (place_is s.lowered q below)) ∙ fails_before_first (are_enough s) (range_with_len 0 s.lowered) q 0 h

-- the places that are found below the power of ten below are enough
enough_below : (s : Spelling) → places_of s < s.lowered → are_enough s (places_of s) ≡ true
unfolding places_of
enough_below s h =
    sym (ap (are_enough s) (place_is s.lowered (places_of s) h)) ∙ passes_at_first (are_enough s) (range_with_len 0 s.lowered) 0 (omega (arith, length-range_with_len 0 s.lowered))

-- as many places as the power of ten below are enough
enough_last : (s : Spelling) (p : ℕ) → p ≡ s.lowered → are_enough s p ≡ true
enough_last s p e =
    let z : (digits_value 10 s.digits * 10 ^ s.raised * 10 ^ p) % 10 ^ s.lowered ≡ 0 =
    ap (λ k. (digits_value 10 s.digits * 10 ^ s.raised * 10 ^ k) % 10 ^ s.lowered) e ∙ none_left (digits_value 10 s.digits * 10 ^ s.raised) s.lowered in
    grind (arith, nat_tests)

-- the places that are found are enough
places_enough : (s : Spelling) → are_enough s (places_of s) ≡ true
places_enough s =
    elim (cases_lt (places_of s) s.lowered) as (λ _. are_enough s (places_of s) ≡ true) [
      | inl h ↦ enough_below s h
      | inr h ↦ enough_last s (places_of s) (omega (arith, places_among s))
    ]

-- the value that is found is one
pub value_found : (s : Spelling) → IsValue s (mantissa_of s) (places_of s)
unfolding mantissa_of
value_found s = record {
  exact = div-mul_cancel (10 ^ s.lowered) (dvd_of_mod-eq-zero (10 ^ s.lowered) (enough_is s (places_of s) (places_enough s)));
  fewest = λ n q e. elim (cases_lt q (places_of s)) as (λ _. places_of s ≤ q) [
    | inl h ↦ absurd (false≢true (sym (fewer s q h) ∙ enough s n q e))
    | inr h ↦ h
  ];
}

-- a number that doesn't end in 0, times a power of ten: as many of its places as the power leaves are needed
pub value_of_stripped : (s : Spelling) (v z : ℕ) → digits_value 10 s.digits ≡ v * 10 ^ z → v % 10 ≢ 0 → IsValue s (v * 10 ^ (z + s.raised - s.lowered)) (s.lowered - (z + s.raised))
value_of_stripped s v z e h = record {
  exact = powers_joined v (z + s.raised - s.lowered) s.lowered (z + s.raised + (s.lowered - (z + s.raised))) (omega arith) ∙ sym (product_is (s.lowered - (z + s.raised)));
  fewest = λ n q f. elim (cases_lt q (s.lowered - (z + s.raised))) as (λ _. s.lowered - (z + s.raised) ≤ q) [
    | inl g ↦ absurd (h (too_few n q f g))
    | inr g ↦ g
  ];
}
  where
    -- the number as one power of ten
    product_is : (p : ℕ) → digits_value 10 s.digits * 10 ^ s.raised * 10 ^ p ≡ v * 10 ^ (z + s.raised + p)
    product_is p =
        ap (λ k. k * 10 ^ s.raised * 10 ^ p) e
        ∙ ap (λ k. k * 10 ^ p) (powers_joined v z s.raised (z + s.raised) refl)
        ∙ powers_joined v (z + s.raised) p (z + s.raised + p) refl

    too_few : (n q : ℕ) → IsMagnitude s n q → q < s.lowered - (z + s.raised) → v % 10 ≡ 0
    too_few n q f g =
        let k = s.lowered - (z + s.raised + q) in
        let same : n * 10 ^ k ≡ v =
        power_cancels (n * 10 ^ k) v (z + s.raised + q)
        (powers_joined n k (z + s.raised + q) s.lowered (omega arith) ∙ f ∙ product_is q) in
        sym (ap (λ m. m % 10) same) ∙ ends_in_zero n k (omega arith)

-- zero
pub value_of_zero : (s : Spelling) → digits_value 10 s.digits ≡ 0 → IsValue s 0 0
value_of_zero s e = record {
  exact = zero-mul (10 ^ s.lowered) ∙ sym (ap (λ k. k * 10 ^ s.raised * 10 ^ 0) e ∙ ap (λ k. k * 10 ^ 0) (zero-mul (10 ^ s.raised)) ∙ zero-mul (10 ^ 0));
  fewest = λ n q f. omega arith;
}

-- the last digit of a value with places isn't 0
pub last_is_needed : (s : Spelling) (m p : ℕ) → IsValue s m p → 0 < p → m % 10 ≢ 0
last_is_needed s m p v h = λ e.
    let tens : m / 10 * 10 ≡ m = omega arith in
    let less : IsMagnitude s (m / 10) (p - 1) =
    power_cancels (m / 10 * 10 ^ s.lowered) (digits_value 10 s.digits * 10 ^ s.raised * 10 ^ (p - 1)) 1
    (mul_right_comm (m / 10) (10 ^ s.lowered) 10 ∙ ap (λ n. n * 10 ^ s.lowered) tens ∙ v.exact
    ∙ sym (powers_joined (digits_value 10 s.digits * 10 ^ s.raised) (p - 1) 1 p (omega arith))) in
    omega (arith, v.fewest (m / 10) (p - 1) less)
