-- From the reach of a run to the sizes of its scenario problems.

use Rattle.std.proofs.Common.{arith, refl, ◌≡◌, ℕ, zero, suc, ◌*◌, ◌^◌, ◌<◌, ◌≤◌, max, nat_le, Bool, true, false, List, [], ◌∷◌, map, length, get_or, ℤ, pos, negsuc, ◌*ℤ◌, ◌≤ℤ◌, unsigned_abs, FitsSigned}
use Rattle.std.proofs.lemmas.Int.{ints, unsigned_abs-mul}
use Rattle.std.proofs.lemmas.List.Elements.{recursion_from_All}
use Rattle.std.proofs.Math.Nat.{mul-le-mul}
use Rattle.std.specs.Int.{w128}
use Rattle.std.specs.List.{AllByRecursion, range_with_len}
use Rattle.base_words.specs.ListSums.{sum_z}
use Rattle.base_words.proofs.ListSums.{sum_z-cons}
use Rattle.base_words.proofs.Magnitudes.{fits_from_abs}
use Rattle.boxed_problem.specs.BoxedFacts.{row_size, value_size}
use Rattle.sp_model.specs.Changes.{sides}
use Rattle.sp_model.specs.Problems.{data_at, factor_of, no_scenario, problem_in, scenario_at, scenarios}
use Rattle.sp_model.specs.Reaching.{box_reach, greatest, hedge_reach, line_reach, raw_reach, rows_reach}
use Rattle.sp_model.specs.declared.program.Scenario.{Scenario}
use Rattle.sp_model.specs.declared.run.Run.{Run}
use Rattle.sp_model.proofs.CostSpans.{cost_span, line_parts_le, plain_span}
use Rattle.sp_model.proofs.ProgramReach.{parts_within, row_le, scenario_rows_le}

-- the parts of the reach
pub reach_parts : (run : Run) → (2 * line_reach run.program run.options run.total ≤ 2 ^ 120) × (2 * length run.program.scenarios * hedge_reach run.program run.options run.total run.nonleaf ≤ 2 ^ 120) × (raw_reach run.program run.options run.total run.nonleaf ≤ 2 ^ 120) × (rows_reach run.program ≤ 2 ^ 120)
reach_parts run =
    let parts = parts_within run.program run.options run.total run.nonleaf in
    let limit = run.facts.within in
    (omega (arith, parts.0, limit), omega (arith, parts.1, limit), omega (arith, parts.2, limit), omega (arith, parts.3, limit))

-- each weight is at most their sum, which isn't negative
weight_le : (ss : List Scenario) (i : ℕ) → AllByRecursion (λ (s : Scenario). pos 1 ≤ℤ s.weight) ss → (pos 0 ≤ℤ sum_z (λ (s : Scenario). s.weight) ss) × (i < length ss → (get_or ss i no_scenario).weight ≤ℤ sum_z (λ (s : Scenario). s.weight) ss)
weight_le [] i h = (omega (arith, ints), λ l. absurd (omega arith))
weight_le (s ∷ ss) zero h =
    let rest = weight_le ss zero h.1 in
    let own = h.0 in
    let not_negative = rest.0 in
    (omega (arith, ints, sum_z-cons (λ (t : Scenario). t.weight) s ss), λ l. omega (arith, ints, sum_z-cons (λ (t : Scenario). t.weight) s ss))
weight_le (s ∷ ss) (suc i) h =
    let rest = weight_le ss i h.1 in
    let own = h.0 in
    let not_negative = rest.0 in
    (omega (arith, ints, sum_z-cons (λ (t : Scenario). t.weight) s ss), λ l. let later = rest.1 (omega arith) in omega (arith, ints, sum_z-cons (λ (t : Scenario). t.weight) s ss))

abs_le : (a b : ℤ) → pos 0 ≤ℤ a → a ≤ℤ b → unsigned_abs a ≤ unsigned_abs b
abs_le (pos a) (pos b) h k = omega (arith, ints)
abs_le (pos a) (negsuc b) h k = absurd (omega (arith, ints))
abs_le (negsuc a) b h k = absurd (omega (arith, ints))

-- a number of at least 1 has a magnitude of at least 1
pub abs_some : (a : ℤ) → pos 1 ≤ℤ a → 1 ≤ unsigned_abs a
abs_some (pos a) h = omega (arith, ints)
abs_some (negsuc a) h = absurd (omega (arith, ints))

weight_abs : (run : Run) (s : ℕ) → s < scenarios run → unsigned_abs (scenario_at run s).weight ≤ unsigned_abs run.total
weight_abs run s l =
    let positive = (run.facts.scenarios s no_scenario l).positive in
    let all = weight_le run.program.scenarios s (recursion_from_All (λ (t : Scenario). pos 1 ≤ℤ t.weight) run.program.scenarios (λ k d h. (run.facts.scenarios k d h).positive)) in
    let most = all.1 l in
    let total = run.facts.sum_is in
    abs_le (scenario_at run s).weight run.total (omega (arith, ints)) (omega (arith, ints))

-- the factor of a scenario's costs
pub factor_abs : (run : Run) (s : ℕ) → s < scenarios run → unsigned_abs (factor_of run s) ≤ unsigned_abs run.options.scale * unsigned_abs run.total
factor_abs run s l =
    let scale_same : unsigned_abs run.options.scale ≤ unsigned_abs run.options.scale = omega arith in
    let product = mul-le-mul scale_same (weight_abs run s l) in
    omega (arith, unsigned_abs-mul run.options.scale (scenario_at run s).weight, product)

square_le : (r w m : ℕ) → 1 ≤ r → 1 ≤ m → 2 * (w * w) ≤ 2 * r * (w * w) * m
square_le r w m h k =
    let two : 2 ≤ 2 * r = omega arith in
    let same : w * w ≤ w * w = omega arith in
    let first = mul-le-mul two same in
    let whole : 2 * r * (w * w) ≤ 2 * r * (w * w) = omega arith in
    let second = mul-le-mul whole k in
    omega (arith, first, second)

root_le : (w n : ℕ) → 2 * (w * w) ≤ n → n ≤ 2 ^ 120 → w < 2 ^ 60
root_le w n h k = by_test (nat_le (2 ^ 60) w) refl
  where
    by_test : (t : Bool) → nat_le (2 ^ 60) w ≡ t → w < 2 ^ 60
    by_test true e =
        let large : 2 ^ 60 ≤ w = grind arith in
        let squares = mul-le-mul large large in
        absurd (omega (arith, squares))
    by_test false e = grind arith

-- the total weight
pub total_abs : (run : Run) → unsigned_abs run.total < 2 ^ 60
total_abs run =
    let most = greatest (map (box_reach run.program) (range_with_len 0 run.nonleaf)) in
    let w = unsigned_abs run.total in
    let r = unsigned_abs run.options.rho in
    let one : 1 ≤ max 1 most = omega arith in
    let raw = (reach_parts run).2 in
    root_le w (2 * r * (w * w) * max 1 most) (square_le r w (max 1 most) (abs_some run.options.rho run.facts.options_fit.some_rho) one) raw

scale_abs : (a : ℤ) → pos 1 ≤ℤ a → a ≤ℤ pos 1000000 → unsigned_abs a ≤ 1000000
scale_abs (pos a) h k = omega (arith, ints)
scale_abs (negsuc a) h k = absurd (omega (arith, ints))

pub factor_fits : (run : Run) (s : ℕ) → s < scenarios run → FitsSigned w128 (factor_of run s)
factor_fits run s l =
    let scale = scale_abs run.options.scale run.facts.options_fit.some_scale run.facts.options_fit.scale in
    let total = total_abs run in
    let total_le : unsigned_abs run.total ≤ 2 ^ 60 = omega arith in
    let product = mul-le-mul scale total_le in
    fits_from_abs (factor_of run s) (omega (arith, factor_abs run s l, product))

-- a factor times what the costs span
pub span_small : (run : Run) (s : ℕ) → s < scenarios run → unsigned_abs (factor_of run s) * cost_span run.program ≤ 2 ^ 119
span_small run s l =
    let same : cost_span run.program ≤ cost_span run.program = omega arith in
    let line = (reach_parts run).0 in
    omega (arith, mul-le-mul (factor_abs run s l) same, line)

-- the constant of a scenario's problem
pub constant_fits : (run : Run) (s : ℕ) → s < scenarios run → FitsSigned w128 (factor_of run s *ℤ run.program.constant)
constant_fits run s l = fits_from_abs (factor_of run s *ℤ run.program.constant) (omega (arith, line_parts_le run s l, span_small run s l))

pub value_fits : (run : Run) (s : ℕ) → s < scenarios run → value_size (sides run.program) (problem_in run s).constant (problem_in run s).line (problem_in run s).square ≤ 2 ^ 122
value_fits run s l = omega (arith, plain_span run s l, span_small run s l)

pub rows_fit : (run : Run) (s i : ℕ) → s < scenarios run → i < length (data_at run s).limits → row_size (sides run.program) (data_at run s).limits (data_at run s).entries i ≤ 2 ^ 122
rows_fit run s i l h = omega (arith, row_le run.program (data_at run s) i h, scenario_rows_le run.program s l, (reach_parts run).3)
