-- Whether the bounds of a pair are as close as a run asks, told by a sum that stops at its type's greatest number.

use Rattle.std.proofs.Common.{arith, refl, sym, subst, ◌∙◌, ◌≡◌, ◌↔◌, ℕ, ◌-◌, ◌^◌, ◌≤◌, min, Bool, IsTrue, ℤ, pos, negsuc, ◌+ℤ◌, ◌-ℤ◌, ◌≤ℤ◌, int_le, Option, Some, IsSomeAnd, FitsSigned}
use Rattle.std.specs.Int.{w128, saturate_signed}
use Rattle.std.proofs.lemmas.Int.{ints}
use Rattle.base_words.proofs.Comparisons.{most_from_test, test_from_most}
use Rattle.bound_ledger.specs.declared.ledger.Pair.{Pair}
use Rattle.sp_model.specs.declared.run.Run.{Run}
use Rattle.run_log.specs.Runs.{IsClose}

-- what is at most a sum is at most where it stops, and the other way round, if one part isn't below 0
below_sum : (upper lower gap z : ℤ) → lower +ℤ gap ≡ z → pos 0 ≤ℤ gap → FitsSigned w128 upper → FitsSigned w128 lower → (upper ≤ℤ saturate_signed w128 z → upper ≤ℤ z) × (upper ≤ℤ z → upper ≤ℤ saturate_signed w128 z)
below_sum (pos u) lower gap (pos n) e g f h = (λ l. omega (arith, ints, l), λ l. omega (arith, ints, l, f.sfits))
below_sum (negsuc u) lower gap (pos n) e g f h = (λ l. omega (arith, ints), λ l. omega (arith, ints))
below_sum upper (pos k) gap (negsuc n) e g f h = absurd (omega (arith, ints, e, g))
below_sum upper (negsuc k) gap (negsuc n) e g f h =
    let low : n ≤ k = omega (arith, ints, e, g) in
    let same : min n (2 ^ 127 - 1) ≡ n = omega (arith, low, h.sfits) in
    (subst (λ (m : ℕ). upper ≤ℤ negsuc m) same, subst (λ (m : ℕ). upper ≤ℤ negsuc m) (sym same))

pub close_test : (run : Run) (pair : Pair) (upper : ℤ) (b : Bool) → pair.upper ≡ Some upper → FitsSigned w128 upper → FitsSigned w128 pair.lower → b ≡ int_le upper (saturate_signed w128 (pair.lower +ℤ run.options.gap)) → IsTrue b ↔ IsClose run pair
close_test run pair upper b is high low told =
    let both = below_sum upper pair.lower run.options.gap (pair.lower +ℤ run.options.gap) refl run.facts.options_fit.some_gap high low in
    subst (λ (o : Option ℤ). IsTrue b ↔ IsSomeAnd o (λ u. (u -ℤ pair.lower) ≤ℤ run.options.gap)) (sym is) (
      λ t. let l : upper ≤ℤ (pair.lower +ℤ run.options.gap) = both.0 (most_from_test upper (saturate_signed w128 (pair.lower +ℤ run.options.gap)) (sym told ∙ t)) in omega (arith, ints, l),
      λ l. told ∙ test_from_most upper (saturate_signed w128 (pair.lower +ℤ run.options.gap)) (both.1 (let m : upper ≤ℤ (pair.lower +ℤ run.options.gap) = omega (arith, ints, l) in m)),
    )
