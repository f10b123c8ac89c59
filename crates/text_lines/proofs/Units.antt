-- Why the unit of a run fits, and is above 0.
use Rattle.std.proofs.Common.{arith, ◌≡◌, ℕ, ◌*◌, ◌^◌, ◌<◌, ◌≤◌, Bool, true, false, ◌||◌, List, [], ◌∷◌, length, ℤ, pos, negsuc, ◌*ℤ◌, ◌≤ℤ◌, ◌<ℤ◌, unsigned_abs, FitsSigned, refl, lit≤}
use Rattle.std.proofs.lemmas.Bool.Decides.{Decides-int_eq}
use Rattle.std.proofs.lemmas.Int.{ints, unsigned_abs-mul}
use Rattle.std.proofs.lemmas.List.Elements.{recursion_from_All}
use Rattle.std.proofs.Math.Nat.{mul-le-mul, pow-le-pow_right}
use Rattle.std.specs.Int.{w128}
use Rattle.std.specs.List.{AllByRecursion, list_any, range_with_len}
use Rattle.std.specs.Ordering.{int_eq}
use Rattle.base_words.specs.ListSums.{sum_z}
use Rattle.base_words.proofs.ListSums.{sum_z-cons}
use Rattle.base_words.proofs.Magnitudes.{fits_from_abs}
use Rattle.sp_model.specs.declared.program.Scenario.{Scenario}
use Rattle.sp_model.specs.declared.run.Run.{Run}
use Rattle.sp_model.proofs.Bounds.{total_abs}
use Rattle.text_lines.specs.Headings.{unit_of}

-- a number between 1 and another has that one's magnitude at most
between : (z : ℤ) (n : ℕ) → pos 1 ≤ℤ z → z ≤ℤ pos n → (1 ≤ unsigned_abs z) × (unsigned_abs z ≤ n)
between (pos a) n h k = (omega (arith, ints), omega (arith, ints))
between (negsuc a) n h k = absurd (omega (arith, ints))

-- the total weight is at least 1
sum_from : (ss : List Scenario) → AllByRecursion (λ (s : Scenario). pos 1 ≤ℤ s.weight) ss → pos (length ss) ≤ℤ sum_z (λ (s : Scenario). s.weight) ss
sum_from [] h = omega (arith, ints)
sum_from (s ∷ ss) h =
    let rest = sum_from ss h.1 in
    let own = h.0 in
    omega (arith, ints, sum_z-cons (λ (t : Scenario). t.weight) s ss)

total_some : (run : Run) → pos 1 ≤ℤ run.total
total_some run =
    let sum = sum_from run.program.scenarios (recursion_from_All (λ (t : Scenario). pos 1 ≤ℤ t.weight) run.program.scenarios (λ k d h. (run.facts.scenarios k d h).positive)) in
    let some = run.facts.counts.some_scenarios in
    omega (arith, ints, run.facts.sum_is)

-- the number that passes one of some tests
passing : (f : ℕ → Bool) (ps : List ℕ) → list_any f ps ≡ true → AllByRecursion (λ p. p ≤ 9) ps → (p : ℕ) × (p ≤ 9) × (f p ≡ true)
passing f [] e h = absurd (let x = e in cc)
passing f (p ∷ ps) e h = by_test (f p) refl e (λ g. passing f ps g h.1)
  where
    by_test : (t : Bool) → f p ≡ t → (t || list_any f ps) ≡ true → (list_any f ps ≡ true → (q : ℕ) × (q ≤ 9) × (f q ≡ true)) → (q : ℕ) × (q ≤ 9) × (f q ≡ true)
    by_test true g k rest = (p, h.0, g)
    by_test false g k rest = rest k

power_some : (p : ℕ) → 1 ≤ 10 ^ p
power_some p = let most : 0 ≤ p = omega arith in pow-le-pow_right {n = 10} (lit≤ tt) most

power_most : (p : ℕ) → p ≤ 9 → 10 ^ p ≤ 10 ^ 9
power_most p h = pow-le-pow_right {n = 10} (lit≤ tt) h

few_powers : AllByRecursion (λ p. p ≤ 9) (range_with_len 0 10)
few_powers = (omega arith, (omega arith, (omega arith, (omega arith, (omega arith, (omega arith, (omega arith, (omega arith, (omega arith, (omega arith, tt))))))))))

-- the cost scale is a power of ten
cost_scale_within : (run : Run) → (pos 1 ≤ℤ run.program.cost_scale) × (run.program.cost_scale ≤ℤ pos (10 ^ 9))
cost_scale_within run =
    let found = passing (λ p. int_eq run.program.cost_scale (pos (10 ^ p))) (range_with_len 0 10) run.facts.scaled few_powers in
    let is = (Decides-int_eq run.program.cost_scale (pos (10 ^ found.0))).0 found.2 in
    let some : 1 ≤ 10 ^ found.0 = power_some found.0 in
    let most : 10 ^ found.0 ≤ 10 ^ 9 = power_most found.0 found.1 in
    (omega (arith, ints, is, some), omega (arith, ints, is, most))

-- what the unit of a run is made of
pub record UnitFacts (run : Run) : Type 0 where
  pub scale : FitsSigned w128 run.options.scale
  pub total : FitsSigned w128 run.total
  pub product : FitsSigned w128 (run.options.scale *ℤ run.total)
  pub cost_scale : FitsSigned w128 run.program.cost_scale
  pub unit : FitsSigned w128 (unit_of run)
  pub above : pos 0 <ℤ unit_of run

times_above : (a b : ℤ) → pos 1 ≤ℤ a → pos 1 ≤ℤ b → pos 1 ≤ℤ (a *ℤ b)
times_above (pos a) (pos b) h k =
    let one : 1 ≤ a = omega (arith, ints) in
    let two : 1 ≤ b = omega (arith, ints) in
    let product : 1 * 1 ≤ a * b = mul-le-mul one two in
    omega (arith, ints, product)
times_above (pos a) (negsuc b) h k = absurd (omega (arith, ints))
times_above (negsuc a) b h k = absurd (omega (arith, ints))

pub unit_facts : (run : Run) → UnitFacts run
unit_facts run =
    let fit = run.facts.options_fit in
    let scale = between run.options.scale 1000000 fit.some_scale fit.scale in
    let total = total_abs run in
    let total_le : unsigned_abs run.total ≤ 2 ^ 60 = omega arith in
    let power = cost_scale_within run in
    let cost = between run.program.cost_scale (10 ^ 9) power.0 power.1 in
    let first = mul-le-mul scale.1 total_le in
    let product : unsigned_abs (run.options.scale *ℤ run.total) ≤ 1000000 * 2 ^ 60 = omega (arith, unsigned_abs-mul run.options.scale run.total, first) in
    let second = mul-le-mul product cost.1 in
    let some = times_above (run.options.scale *ℤ run.total) run.program.cost_scale (times_above run.options.scale run.total fit.some_scale (total_some run)) power.0 in
    record {
      scale = fits_from_abs run.options.scale (omega (arith, scale.1));
      total = fits_from_abs run.total (omega (arith, total));
      product = fits_from_abs (run.options.scale *ℤ run.total) (omega (arith, product));
      cost_scale = fits_from_abs run.program.cost_scale (omega (arith, cost.1));
      unit = fits_from_abs (unit_of run) (omega (arith, unsigned_abs-mul (run.options.scale *ℤ run.total) run.program.cost_scale, second));
      above = omega (arith, ints, some);
    }
