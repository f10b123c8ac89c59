-- Numbers that leave 128 bits are large, and so are limits made of them.
use Rattle.std.proofs.Common.{arith, refl, sym, ap, ◌∙◌, ◌≡◌, ℕ, ◌+◌, ◌-◌, ◌*◌, ◌^◌, ◌<◌, ◌≤◌, max, nat_lt, Bool, true, false, ℤ, pos, negsuc, ◌+ℤ◌, ◌-ℤ◌, ◌*ℤ◌, ◌≤ℤ◌, int_lt, unsigned_abs, FitsSigned, Option, Some, None}
use Rattle.std.specs.Int.{int_max, int_min, w128}
use Rattle.std.proofs.lemmas.Int.{clamps, fits_signed_from_abs, ints, unsigned_abs-mul}
use Rattle.std.proofs.Math.IntN.{*ℤ_comm}
use Rattle.base_words.proofs.Comparisons.{above_from_test, below_from_test}
use Rattle.base_words.proofs.Products.{times_one, times_order, zero_times}
use Rattle.base_words.specs.Signs.{limit_size}
use Rattle.dec_core.specs.Scale.{scaled_to}
use Rattle.dec_core.specs.declared.decimal.Decimal.{Decimal}
use Rattle.smps_words.specs.declared.core_data.RowKind.{RowKind}
use Rattle.smps_words.specs.declared.core_data.RowKind.TheVariants.{Less, Greater, Equal}
use Rattle.join_words.specs.Limits.{limits_by}
use Rattle.join_numbers.specs.Sizes.{IsLarge}
use Rattle.join_numbers.specs.UnfitNumbers.{AreLarge}

-- a number that doesn't fit is large
large_unfit : (z : ℤ) → (FitsSigned w128 z → ⊥) → IsLarge z
large_unfit z h = by_test (nat_lt (unsigned_abs z) (2 ^ 127)) refl
  where
    by_test : (t : Bool) → nat_lt (unsigned_abs z) (2 ^ 127) ≡ t → 2 ^ 127 ≤ unsigned_abs z
    by_test true e = absurd (h (let small : unsigned_abs z < 2 ^ 127 = grind arith in fits_signed_from_abs w128 z (omega (arith, small))))
    by_test false e = grind arith

-- the right-hand side is one of the limits
rhs_large : (kind : RowKind) (rhs : ℤ) (range : Option ℤ) → IsLarge rhs → AreLarge (limits_by kind rhs range)
rhs_large Less rhs None h = omega (arith, h)
rhs_large Less rhs (Some range) h = omega (arith, h)
rhs_large Greater rhs None h = omega (arith, h)
rhs_large Greater rhs (Some range) h = omega (arith, h)
rhs_large Equal rhs None h = omega (arith, h)
rhs_large Equal rhs (Some range) h = by_test (int_lt range (pos 0)) refl
  where
    by_test : (t : Bool) → int_lt range (pos 0) ≡ t → 2 ^ 127 ≤ max (unsigned_abs (rhs +ℤ int_min range (pos 0))) (unsigned_abs (rhs +ℤ int_max range (pos 0)))
    by_test true e = let same : (rhs +ℤ int_max range (pos 0)) ≡ rhs = omega (arith, ints, clamps, below_from_test range (pos 0) e) in omega (arith, h, ap unsigned_abs same)
    by_test false e = let same : (rhs +ℤ int_min range (pos 0)) ≡ rhs = omega (arith, ints, clamps, above_from_test range (pos 0) e) in omega (arith, h, ap unsigned_abs same)

-- a limit that is large makes the limits large
lower_large : (lower upper : Option ℤ) → 2 ^ 127 ≤ limit_size lower → AreLarge (record { lower = lower; upper = upper })
lower_large lower upper h = omega (arith, h)

upper_large : (lower upper : Option ℤ) → 2 ^ 127 ≤ limit_size upper → AreLarge (record { lower = lower; upper = upper })
upper_large lower upper h = omega (arith, h)

-- a number with more places than it is scaled to stays the same
scaled_same : (d : Decimal) (places : ℕ) → places < d.places → d.mantissa ≡ scaled_to d places
scaled_same d places lt =
    let none : places - d.places ≡ 0 = omega (arith, lt) in
    sym (ap (λ k. d.mantissa *ℤ pos (10 ^ k)) none ∙ times_one d.mantissa)

-- the magnitude of a scaled number
scaled_size : (d : Decimal) (places : ℕ) → unsigned_abs (scaled_to d places) ≡ unsigned_abs d.mantissa * 10 ^ (places - d.places)
scaled_size d places = unsigned_abs-mul d.mantissa (pos (10 ^ (places - d.places)))

-- a scaled number has the sign of its mantissa
scaled_below : (d : Decimal) (places : ℕ) → d.mantissa ≤ℤ pos 0 → scaled_to d places ≤ℤ pos 0
scaled_below d places h =
    let order = times_order (10 ^ (places - d.places)) d.mantissa (pos 0) h in
    let turned = *ℤ_comm d.mantissa (pos (10 ^ (places - d.places))) in
    let none = *ℤ_comm (pos (10 ^ (places - d.places))) (pos 0) in
    let no_times : (pos 0 *ℤ pos (10 ^ (places - d.places))) ≡ pos 0 = zero_times (pos (10 ^ (places - d.places))) in
    omega (arith, ints, order, turned, none, no_times)

scaled_above : (d : Decimal) (places : ℕ) → pos 0 ≤ℤ d.mantissa → pos 0 ≤ℤ scaled_to d places
scaled_above d places h =
    let order = times_order (10 ^ (places - d.places)) (pos 0) d.mantissa h in
    let turned = *ℤ_comm d.mantissa (pos (10 ^ (places - d.places))) in
    let none = *ℤ_comm (pos (10 ^ (places - d.places))) (pos 0) in
    let no_times : (pos 0 *ℤ pos (10 ^ (places - d.places))) ≡ pos 0 = zero_times (pos (10 ^ (places - d.places))) in
    omega (arith, ints, order, turned, none, no_times)

-- a range below, and above
low_range : (rhs range : ℤ) → range ≤ℤ pos 0 → (rhs -ℤ pos (unsigned_abs range)) ≡ (rhs +ℤ int_min range (pos 0))
low_range rhs (pos n) h = omega (arith, ints, clamps)
low_range rhs (negsuc n) h = omega (arith, ints, clamps)

no_low_range : (rhs range : ℤ) → pos 0 ≤ℤ range → rhs ≡ (rhs +ℤ int_min range (pos 0))
no_low_range rhs range h = omega (arith, ints, clamps)

high_range : (rhs range : ℤ) → pos 0 ≤ℤ range → (rhs +ℤ pos (unsigned_abs range)) ≡ (rhs +ℤ int_max range (pos 0))
high_range rhs (pos n) h = omega (arith, ints, clamps)
high_range rhs (negsuc n) h = omega (arith, ints, clamps)

no_high_range : (rhs range : ℤ) → range ≤ℤ pos 0 → rhs ≡ (rhs +ℤ int_max range (pos 0))
no_high_range rhs range h = omega (arith, ints, clamps)
