-- a number read by its capped parts has the value that it is spelled with
use Rattle.std.proofs.Common.{◌≡◌, ℕ, ◌+◌, ◌-◌, ◌*◌, ◌%◌, ◌^◌, ◌<◌, ◌≤◌, Bool, true, false, List, Option, Some, None, Result, Ok, Err, IfOk, pos, unsigned_abs, min, refl, sym, zero-mul, ap, ◌∙◌, arith}
use Rattle.std.specs.Str.Parse.{digits_value}
use Rattle.wide_num.proofs.LowestLemmas.{magnitude_of}
use Rattle.dec_core.specs.Spelling.{Spelling, spelling_of, raised_by, lowered_by}
use Rattle.dec_core.specs.Stripped.{IsStripped, max_significand, max_exponent}
use Rattle.dec_core.specs.DecimalValue.{IsNormal, ReadsAs, decimal_of, within_limits, mantissa_of, places_of, decimal_of_spelling}
use Rattle.dec_core.specs.declared.decimal.Decimal.{Decimal}
use Rattle.dec_core.specs.declared.decimal.DecFault.{DecFault}
use Rattle.dec_core.proofs.LimitLaws.{caps_agree, within_is}
use Rattle.dec_core.proofs.StripLaws.{capped_product}
use Rattle.dec_core.proofs.ValueLaws.{one_value, value_found, last_is_needed, value_of_stripped, value_of_zero}

-- zero is within the limits, with either sign
zero_within : (n : Bool) → within_limits n 0 0 ≡ Ok (record { mantissa = pos 0; places = 0 })
zero_within true = refl
zero_within false = refl

-- a number without a digit above 0 is read as (0, 0)
pub zero_read : (s : Spelling) (zeros : ℕ) → IsStripped (digits_value 10 s.digits) 0 zeros → Ok (record { mantissa = pos 0; places = 0 }) ≡ within_limits s.negative (mantissa_of s) (places_of s)
zero_read s zeros h =
    let none : h.number ≡ 0 = omega (arith, h.capped) in
    let e = one_value s 0 0 (mantissa_of s) (places_of s) (value_of_zero s (h.exact ∙ ap (λ n. n * 10 ^ zeros) none ∙ zero-mul (10 ^ zeros))) (value_found s) in
    sym (zero_within s.negative) ∙ ap (λ m. within_limits s.negative m 0) e.0 ∙ ap (λ p. within_limits s.negative (mantissa_of s) p) e.1

-- what a spelling is read as is each of its values within the limits
pub reads_as : (o : Option Spelling) (r : Result Decimal DecFault) → r ≡ decimal_of_spelling o → ReadsAs o r
reads_as None r e = e
reads_as (Some s) r e = λ m p h.
    let v = one_value s (mantissa_of s) (places_of s) m p (value_found s) h in
    e ∙ ap (λ n. within_limits s.negative n (places_of s)) v.0 ∙ ap (λ q. within_limits s.negative m q) v.1

-- an exponent multiplies or divides
pub one_way : (exponent : Option (List ℕ)) → min (raised_by exponent) (lowered_by exponent) ≡ 0
one_way None = refl
one_way (Some text) = grind arith

-- a number with a digit above 0 is read from its significand and capped exponents
pub number_read : (s : Spelling) (value zeros f d up down k p m : ℕ) → IsStripped (digits_value 10 s.digits) value zeros → 0 < value → zeros ≤ 2 ^ 65 → f < 2 ^ 64
    → s.lowered ≡ f + d → min s.raised d ≡ 0 → up ≡ min s.raised max_exponent → down ≡ min d max_exponent
    → k ≡ zeros + up - (f + down) → p ≡ f + down - (zeros + up) → m ≡ min (value * 10 ^ k) max_significand
    → within_limits s.negative m p ≡ within_limits s.negative (mantissa_of s) (places_of s)
number_read s value zeros f d up down k p m h some z l low way u w ek ep em =
    ap (λ n. within_limits s.negative n p) product ∙ ap (λ q. within_limits s.negative capped q) places
    ∙ sym (caps_agree s.negative h.number zeros f s.raised d positive z l way)
    ∙ ap (λ n. within_limits s.negative n (f + d - (zeros + s.raised))) (mantissa_is ∙ true_is.0)
    ∙ ap (λ q. within_limits s.negative (mantissa_of s) q) (places_is ∙ true_is.1)
  where
    positive : 0 < h.number
    positive = omega (arith, h.capped)

    true_is : (h.number * 10 ^ (zeros + s.raised - s.lowered) ≡ mantissa_of s) × (s.lowered - (zeros + s.raised) ≡ places_of s)
    true_is = one_value s (h.number * 10 ^ (zeros + s.raised - s.lowered)) (s.lowered - (zeros + s.raised)) (mantissa_of s) (places_of s)
        (value_of_stripped s h.number zeros h.exact (λ e. omega (arith, h.last e))) (value_found s)

    capped : ℕ
    capped = min (h.number * 10 ^ (zeros + min s.raised max_exponent - (f + min d max_exponent))) max_significand

    product : m ≡ capped
    product = em ∙ ap (λ n. min (n * 10 ^ k) max_significand) h.capped ∙ capped_product h.number k max_significand
        ∙ ap (λ j. min (h.number * 10 ^ j) max_significand) (ek ∙ omega arith)

    places : p ≡ f + min d max_exponent - (zeros + min s.raised max_exponent)
    places = omega arith

    mantissa_is : h.number * 10 ^ (zeros + s.raised - (f + d)) ≡ h.number * 10 ^ (zeros + s.raised - s.lowered)
    mantissa_is = ap (λ n. h.number * 10 ^ (zeros + s.raised - n)) (sym low)

    places_is : f + d - (zeros + s.raised) ≡ s.lowered - (zeros + s.raised)
    places_is = ap (λ n. n - (zeros + s.raised)) (sym low)

-- a spelling's number within the limits is normal
normal_value : (s : Spelling) (d : Decimal) → within_limits s.negative (mantissa_of s) (places_of s) ≡ Ok d → IsNormal d
normal_value s d e =
    let w = within_is s.negative (mantissa_of s) (places_of s) d e in
    let same : unsigned_abs d.mantissa ≡ mantissa_of s = ap (λ x. unsigned_abs x.mantissa) w.2 ∙ magnitude_of s.negative (mantissa_of s) in
    let places : d.places ≡ places_of s = ap (λ x. x.places) w.2 in
    let needed = last_is_needed s (mantissa_of s) (places_of s) (value_found s) in
    record {
      places = omega arith;
      mantissa = omega arith;
      fewest = λ h. λ z. needed (omega arith) (ap (λ x. x % 10) (sym same) ∙ z);
    }

-- what a spelling is read as is normal
normal_spelling : (o : Option Spelling) (d : Decimal) → decimal_of_spelling o ≡ Ok d → IsNormal d
normal_spelling None d e = absurd (cc)
normal_spelling (Some s) d e = normal_value s d e

-- the same of a result
pub normal_result : (o : Option Spelling) (r : Result Decimal DecFault) → r ≡ decimal_of_spelling o → IfOk r (λ d. IsNormal d)
normal_result o (Ok d) e = normal_spelling o d (sym e)
normal_result o (Err f) e = tt

-- what a text is read as is normal
pub normal_read : (text : List ℕ) (d : Decimal) → decimal_of text ≡ Ok d → IsNormal d
unfolding decimal_of
normal_read text d e = normal_spelling (spelling_of text) d e
