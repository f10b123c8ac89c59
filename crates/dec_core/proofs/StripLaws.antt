-- rows of digits without the zeros at their end, one digit more
use Rattle.std.proofs.Common.{◌≡◌, ℕ, ◌+◌, ◌-◌, ◌*◌, ◌%◌, ◌^◌, ◌<◌, ◌≤◌, min, inl, inr, refl, sym, ap, ◌∙◌, arith}
use Rattle.std.proofs.lemmas.Bool.{cases_lt}
use Rattle.std.proofs.lemmas.Nat.{mod-mul-add}
use Rattle.std.proofs.Math.Nat.{mul-one}
use Rattle.dec_core.specs.Stripped.{IsStripped, max_significand}
use Rattle.dec_core.proofs.Powers.{powers_joined, not_less}

-- a cap before a product with a power of ten changes nothing behind the product's own cap
pub capped_product : (v k c : ℕ) → min (min v c * 10 ^ k) c ≡ min (v * 10 ^ k) c
capped_product v k c =
    elim (cases_lt c v) as (λ _. min (min v c * 10 ^ k) c ≡ min (v * 10 ^ k) c) [
      | inl h ↦ (let e : min v c ≡ c = omega arith in ap (λ n. min (n * 10 ^ k) c) e ∙ omega (arith, not_less c k, not_less v k))
      | inr h ↦ (let e : min v c ≡ v = omega arith in ap (λ n. min (n * 10 ^ k) c) e)
    ]

-- one power of ten from the product's rest to the product
pub scaled_more : (v k c : ℕ) → 0 < k → min (min (v * 10) c * 10 ^ (k - 1)) c ≡ min (v * 10 ^ k) c
scaled_more v k c h = capped_product (v * 10) (k - 1) c ∙ ap (λ n. min n c) (powers_joined v 1 (k - 1) k (omega arith))

-- a product that has reached the cap stays there
pub scaled_over : (v k c : ℕ) → c ≤ v → min (v * 10 ^ k) c ≡ c
scaled_over v k c h = omega (arith, not_less v k)

-- the number behind one more power of ten
ten_times : (n v z : ℕ) → n ≡ v * 10 ^ z → n * 10 ≡ v * 10 ^ (z + 1)
ten_times n v z e = ap (λ k. k * 10) e ∙ powers_joined v z 1 (z + 1) refl

-- one zero more
pub zero_behind : (n v z d : ℕ) → d ≡ 0 → IsStripped n v z → IsStripped (n * 10 + d) v (z + 1)
zero_behind n v z d f h = record {
  number = h.number;
  exact = omega (arith, ten_times n h.number z h.exact);
  last = h.last;
  capped = h.capped;
}

-- one digit more that isn't zero
pub digit_behind : (n v z d w : ℕ) → 0 < d → d < 10 → w ≡ min (min (v * 10 ^ (z + 1)) max_significand + d) max_significand → IsStripped n v z → IsStripped (n * 10 + d) w 0
digit_behind n v z d w g l e h = record {
  number = h.number * 10 ^ (z + 1) + d;
  exact = ap (λ k. k + d) (ten_times n h.number z h.exact) ∙ sym (mul-one (h.number * 10 ^ (z + 1) + d));
  last = λ f. absurd (omega (arith, f, ends_in_digit));
  capped = e ∙ omega (arith, ap (λ k. min (k * 10 ^ (z + 1)) max_significand) h.capped ∙ capped_product h.number (z + 1) max_significand);
}
  where
    ends_in_digit : (h.number * 10 ^ (z + 1) + d) % 10 ≡ d
    ends_in_digit = ap (λ k. (k + d) % 10) (sym (powers_joined h.number z 1 (z + 1) refl)) ∙ mod-mul-add (h.number * 10 ^ z) 10 d l

-- no digits
pub none_read : IsStripped 0 0 0
none_read = record { number = 0; exact = refl; last = λ _. refl; capped = refl }
