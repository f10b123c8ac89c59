-- How great the values of scenario problems become, with multipliers as prices, and hedged.

use Rattle.std.proofs.Common.{arith, refl, ap, ◌∙◌, ◌≡◌, ℕ, zero, suc, ◌+◌, ◌*◌, ◌<◌, ◌≤◌, nat_lt, Bool, true, false, length, ℤ, pos, ◌+ℤ◌, ◌*ℤ◌, unsigned_abs, if◌then◌else◌}
use Rattle.std.proofs.lemmas.Int.{ints}
use Rattle.std.proofs.lemmas.List.{length-map}
use Rattle.std.proofs.lemmas.List.FromFn.{get_or-map-range_with_len}
use Rattle.std.proofs.Math.Nat.{mul-add, mul-le-mul, mul_comm}
use Rattle.base_words.specs.Sums.{number_at, size_below}
use Rattle.base_words.proofs.Magnitudes.{abs-add}
use Rattle.base_words.proofs.SumBounds.{size_below-le, size_below-mono, size_below-add}
use Rattle.boxed_problem.specs.BoxedFacts.{column_size, value_size}
use Rattle.sp_model.specs.Changes.{side_of, sides}
use Rattle.run_calls.specs.MultiplierTests.{AreSized, most_at}
use Rattle.sp_model.specs.Plans.{multiplier_of, with_prices}
use Rattle.sp_model.specs.Problems.{data_at, factor_of, problem_in, scenarios}
use Rattle.sp_model.specs.Reaching.{box_reach, hedge_part, hedge_reach}
use Rattle.sp_model.specs.declared.plan.Multipliers.{Multipliers}
use Rattle.sp_model.specs.declared.run.Run.{Run}
use Rattle.sp_model.proofs.CostSpans.{cost_span, line_part, line_parts_le}
use Rattle.sp_model.proofs.DataFacts.{data_keeps}
use Rattle.sp_model.proofs.Sizes.{zeros_at}
use Rattle.base_words.proofs.NumberTests.{less_from_test}

-- a sum of which only the first parts count
pub cut_le : (n m : ℕ) (g : ℕ → ℕ) → size_below n (λ j. if nat_lt j m then g j else 0) ≤ size_below m g
cut_le zero m g = omega arith
cut_le (suc n) m g = by_test (nat_lt n m) refl (cut_le n m g)
  where
    one : (b : Bool) (k : ℕ) → (if b then k else 0) ≤ k
    one true k = omega arith
    one false k = omega arith

    by_test : (b : Bool) → nat_lt n m ≡ b → size_below n (λ j. if nat_lt j m then g j else 0) ≤ size_below m g → size_below n (λ j. if nat_lt j m then g j else 0) + (if b then g n else 0) ≤ size_below m g
    by_test true e r =
        let below : suc n ≤ m = grind arith in
        omega (arith, size_below-mono n (λ j. if nat_lt j m then g j else 0) g (λ k h. one (nat_lt k m) (g k)), size_below-le (suc n) m g below)
    by_test false e r = omega (arith, r)

-- a column's multiplier times its box: a part of the hedge in a nonleaf column, and 0 in another
price_part_le : (run : Run) (multipliers : Multipliers) (s j : ℕ) → AreSized run multipliers → s < scenarios run → unsigned_abs (multiplier_of run multipliers s j) * box_reach run.program j ≤ (if nat_lt j run.nonleaf then hedge_part run.program run.options run.total j else 0)
price_part_le run multipliers s j sized l = by_test (nat_lt j run.nonleaf) refl
  where
    by_test : (b : Bool) → nat_lt j run.nonleaf ≡ b → unsigned_abs (if b then number_at multipliers.values (s * run.nonleaf + j) else pos 0) * box_reach run.program j ≤ (if b then hedge_part run.program run.options run.total j else 0)
    by_test true e =
        let below = less_from_test j run.nonleaf e in
        let own : unsigned_abs (number_at multipliers.values (s * run.nonleaf + j)) ≤ most_at run j = omega (arith, sized s j l below, ap (λ b. unsigned_abs (if b then number_at multipliers.values (s * run.nonleaf + j) else pos 0)) e) in
        let twice : unsigned_abs (number_at multipliers.values (s * run.nonleaf + j)) ≤ 2 * most_at run j = omega arith in
        let same : box_reach run.program j ≤ box_reach run.program j = omega arith in
        omega (arith, mul-le-mul twice same)
    by_test false e = omega (arith, ints)

-- the costs of a scenario, as many as there are columns
pub costs_long : (run : Run) (s : ℕ) → s < scenarios run → length (problem_in run s).line ≡ length run.program.columns
costs_long run s l = length-map (data_at run s).costs (λ cost. factor_of run s *ℤ cost) ∙ (data_keeps run s l).costs_long

-- the cost of a column with a price
pub priced_at : (run : Run) (multipliers : Multipliers) (s j : ℕ) → j < length run.program.columns → number_at (with_prices (problem_in run s) (multiplier_of run multipliers s)).line j ≡ number_at (problem_in run s).line j +ℤ multiplier_of run multipliers s j
priced_at run multipliers s j h = get_or-map-range_with_len (λ k. number_at (problem_in run s).line k +ℤ multiplier_of run multipliers s k) 0 (length (sides run.program)) j j (pos 0) (omega (arith, length-map run.program.columns side_of)) (omega arith)

-- the size of a problem with multipliers as prices
pub priced_span : (run : Run) (multipliers : Multipliers) (s : ℕ) → AreSized run multipliers → s < scenarios run →
    value_size (sides run.program) (problem_in run s).constant (with_prices (problem_in run s) (multiplier_of run multipliers s)).line (problem_in run s).square ≤ unsigned_abs (factor_of run s) * cost_span run.program + hedge_reach run.program run.options run.total run.nonleaf
priced_span run multipliers s sized l =
    let n = length run.program.columns in
    let line = (with_prices (problem_in run s) (multiplier_of run multipliers s)).line in
    let costs = (data_at run s).costs in
    let part = hedge_part run.program run.options run.total in
    let size : ℕ → ℕ = λ j. line_part run s j + (if nat_lt j run.nonleaf then part j else 0) in
    let each = size_below-mono n (column_size (sides run.program) line (problem_in run s).square) size (λ j h.
    let m = box_reach run.program j in
    let base = number_at (problem_in run s).line j in
    let price = multiplier_of run multipliers s j in
    let same : m ≤ m = omega arith in
    let added = mul-le-mul (abs-add base price) same in
    let split : (unsigned_abs base + unsigned_abs price) * m ≡ unsigned_abs base * m + unsigned_abs price * m = mul_comm (unsigned_abs base + unsigned_abs price) m ∙ mul-add m (unsigned_abs base) (unsigned_abs price) ∙ omega (arith, mul_comm m (unsigned_abs base), mul_comm m (unsigned_abs price)) in
    let flat = ap (λ z. unsigned_abs z * (m * m)) (zeros_at costs j) in
    omega (arith, ap (λ z. unsigned_abs z * m) (priced_at run multipliers s j h), added, split, flat, price_part_le run multipliers s j sized l)) in
    let long = ap (λ k. size_below k (column_size (sides run.program) line (problem_in run s).square)) (length-map run.program.columns side_of) in
    omega (arith, each, long, size_below-add n (line_part run s) (λ j. if nat_lt j run.nonleaf then part j else 0), cut_le n run.nonleaf part, line_parts_le run s l)
