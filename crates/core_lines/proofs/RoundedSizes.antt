-- The ends that a line of BOUNDS says are small, where its value isn't beyond the limit.
use Rattle.std.proofs.Common.{◌≡◌, refl, sym, subst, ℕ, ◌*◌, ◌≤◌, ◌^◌, true, false, arith}
use Rattle.std.proofs.lemmas.Grind.{common_steps}
use Rattle.std.specs.Prelude.{pos, neg_ℤ, unsigned_abs}
use Rattle.std.specs.Int.{int_div_euclid}
use Rattle.base_words.proofs.Magnitudes.{abs_opposite}
use Rattle.base_words.specs.Signs.{limit_size}
use Rattle.base_words.proofs.Quotients.{floor_small}
use Rattle.dec_core.proofs.Powers.{power_positive}
use Rattle.dec_core.specs.declared.decimal.Decimal.{Decimal}
use Rattle.smps_words.specs.CoreFacts.{max_end}
use Rattle.core_lines.specs.BoundLines.{has_value, is_beyond, low_change, high_change, lower_said, upper_said}
use Rattle.core_lines.specs.Boxes.{end_said}
use Rattle.core_lines.specs.declared.bound_values.BoundValue.{BoundValue}
use Rattle.core_lines.specs.declared.bound_values.BoundValue.TheVariants.{Endless, Finite}
use Rattle.core_lines.specs.declared.words.BoundKind.{BoundKind}
use Rattle.core_lines.specs.declared.words.BoundKind.TheVariants.{Lower, Upper, Fixed, Free, NoLower, NoUpper, Binary}

within : (d : Decimal) → is_beyond (Finite d) ≡ false → unsigned_abs d.mantissa ≤ max_end * 10 ^ d.places
within d off = grind (arith, common_steps)

low_small : (v : BoundValue) → is_beyond v ≡ false → limit_size (end_said (low_change v)) ≤ max_end
low_small (Endless negative) off = omega arith
low_small (Finite d) off =
    subst (λ (n : ℕ). n ≤ max_end) (sym (abs_opposite (int_div_euclid (neg_ℤ d.mantissa) (pos (10 ^ d.places)))))
    (floor_small (neg_ℤ d.mantissa) (10 ^ d.places) max_end (power_positive d.places) (subst (λ (n : ℕ). n ≤ max_end * 10 ^ d.places) (sym (abs_opposite d.mantissa)) (within d off)))

high_small : (v : BoundValue) → is_beyond v ≡ false → limit_size (end_said (high_change v)) ≤ max_end
high_small (Endless negative) off = omega arith
high_small (Finite d) off = floor_small d.mantissa (10 ^ d.places) max_end (power_positive d.places) (within d off)

pub lower_small : (kind : BoundKind) (v : BoundValue) → (has_value kind ≡ true → is_beyond v ≡ false) → limit_size (end_said (lower_said kind v)) ≤ max_end
lower_small Lower v not_beyond = low_small v (not_beyond refl)
lower_small Upper v not_beyond = omega arith
lower_small Fixed v not_beyond = low_small v (not_beyond refl)
lower_small Free v not_beyond = omega arith
lower_small NoLower v not_beyond = omega arith
lower_small NoUpper v not_beyond = omega arith
lower_small Binary v not_beyond = omega arith

pub upper_small : (kind : BoundKind) (v : BoundValue) → (has_value kind ≡ true → is_beyond v ≡ false) → limit_size (end_said (upper_said kind v)) ≤ max_end
upper_small Lower v not_beyond = omega arith
upper_small Upper v not_beyond = high_small v (not_beyond refl)
upper_small Fixed v not_beyond = high_small v (not_beyond refl)
upper_small Free v not_beyond = omega arith
upper_small NoLower v not_beyond = omega arith
upper_small NoUpper v not_beyond = omega arith
upper_small Binary v not_beyond = omega arith
