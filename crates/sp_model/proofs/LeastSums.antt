-- How great the sums of least values of a run's scenarios become.

use Rattle.std.proofs.Common.{arith, refl, sym, ap, ◌∙◌, ◌≡◌, ℕ, zero, suc, ◌+◌, ◌*◌, ◌^◌, ◌<◌, ◌≤◌, List, [], ◌∷◌, length, take, get_or, ℤ, pos, negsuc, ◌+ℤ◌, ◌≤ℤ◌, unsigned_abs, Option, Some, None}
use Rattle.std.proofs.lemmas.Int.{ints, unsigned_abs-mul}
use Rattle.std.proofs.lemmas.List.{take_all}
use Rattle.std.proofs.lemmas.List.Elements.{recursion_from_All}
use Rattle.std.proofs.lemmas.List.Sums.{sum_by-cons, sum_by_more}
use Rattle.std.proofs.Math.Nat.{mul-add, mul-le-mul, mul_comm, suc-mul}
use Rattle.std.specs.List.{AllByRecursion, sum_by}
use Rattle.std.specs.Option.{option_and_then, option_map}
use Rattle.base_words.specs.ListSums.{sum_z}
use Rattle.base_words.specs.Sums.{size_below}
use Rattle.base_words.proofs.ListSums.{sum_z-cons}
use Rattle.base_words.proofs.Magnitudes.{abs-add}
use Rattle.base_words.proofs.SumBounds.{size_below-le, size_below-mono, size_below-times}
use Rattle.sp_model.specs.Problems.{factor_of, least_of, no_scenario, problem_in, scenario_at, scenarios, sum_some}
use Rattle.sp_model.specs.declared.program.Scenario.{Scenario}
use Rattle.sp_model.specs.declared.run.Run.{Run}
use Rattle.sp_model.proofs.Bounds.{reach_parts}
use Rattle.sp_model.proofs.CostSpans.{cost_span, plain_span}
use Rattle.sp_model.proofs.LeastValues.{least_abs}
use Rattle.sp_model.proofs.ScenarioPoints.{run_filled}
use Rattle.base_words.proofs.FirstAnswers.{same_some}

-- the size of the weight of scenario s
abbrev pub weight_size : Run → ℕ → ℕ
weight_size run s = unsigned_abs (scenario_at run s).weight

pub positive_is : (a : ℤ) → pos 1 ≤ℤ a → a ≡ pos (unsigned_abs a)
positive_is (pos a) h = refl
positive_is (negsuc a) h = absurd (omega (arith, ints))

-- a sum over a list, place by place
sum_by_places : (g : Scenario → ℕ) (ss : List Scenario) (k : ℕ) → k ≤ length ss → size_below k (λ i. g (get_or ss i no_scenario)) ≡ sum_by g (take k ss)
sum_by_places g ss zero h = refl
sum_by_places g ss (suc k) h =
    let next : suc k ≡ k + 1 = omega arith in
    omega (arith, sum_by_places g ss k (omega arith), sum_by_more g ss k no_scenario (omega arith), ap (λ i. sum_by g (take i ss)) next)

-- the magnitude of a sum of positive weights is the sum of their magnitudes
sum_positive : (ss : List Scenario) → AllByRecursion (λ (t : Scenario). pos 1 ≤ℤ t.weight) ss → sum_z (λ (t : Scenario). t.weight) ss ≡ pos (sum_by (λ (t : Scenario). unsigned_abs t.weight) ss)
sum_positive [] h = refl
sum_positive (s ∷ ss) h = omega (arith, ints, sum_z-cons (λ (t : Scenario). t.weight) s ss, sum_by-cons (λ (t : Scenario). unsigned_abs t.weight) s ss, positive_is s.weight h.0, sum_positive ss h.1)

-- the total weight is the sum of the sizes of all weights
pub total_is : (run : Run) → run.total ≡ pos (size_below (scenarios run) (weight_size run))
total_is run =
    let ss = run.program.scenarios in
    let size : Scenario → ℕ = λ t. unsigned_abs t.weight in
    let positive = recursion_from_All (λ (t : Scenario). pos 1 ≤ℤ t.weight) ss (λ k d h. (run.facts.scenarios k d h).positive) in
    let places = sum_by_places size ss (length ss) (omega arith) in
    let whole = ap (sum_by size) (take_all (length ss) ss (omega arith)) in
    run.facts.sum_is ∙ sum_positive ss positive ∙ ap pos (sym (places ∙ whole))

pub total_abs_is : (run : Run) → unsigned_abs run.total ≡ size_below (scenarios run) (weight_size run)
total_abs_is run = ap unsigned_abs (total_is run)

-- the factors of the first scenarios
pub factors_le : (run : Run) (k : ℕ) → k ≤ scenarios run → size_below k (λ s. unsigned_abs (factor_of run s)) ≤ unsigned_abs run.options.scale * unsigned_abs run.total
factors_le run k h =
    let scale = unsigned_abs run.options.scale in
    let each = size_below-mono k (λ s. unsigned_abs (factor_of run s)) (λ s. scale * weight_size run s) (λ s l. omega (arith, unsigned_abs-mul run.options.scale (scenario_at run s).weight)) in
    let weights : size_below k (weight_size run) ≤ unsigned_abs run.total = omega (arith, size_below-le k (scenarios run) (weight_size run) h, total_abs_is run) in
    let same : scale ≤ scale = omega arith in
    omega (arith, each, size_below-times k scale (weight_size run), mul-le-mul same weights)

-- a sum of least values, term by term
pub sum_span : (f : ℕ → Option ℤ) (g : ℕ → ℕ) (c e k : ℕ) (v : ℤ) → ((s : ℕ) (u : ℤ) → s < k → f s ≡ Some u → unsigned_abs u ≤ g s * c + e) → sum_some k f ≡ Some v → unsigned_abs v ≤ size_below k g * c + k * e
sum_span f g c e zero v h d = let z = same_some d in omega (arith, ints, ap unsigned_abs z)
sum_span f g c e (suc k) v h d = by_front (sum_some k f) refl (f k) refl d (λ u p. sum_span f g c e k u (λ s w l q. h s w (omega arith) q) p)
  where
    by_front : (s : Option ℤ) → sum_some k f ≡ s → (t : Option ℤ) → f k ≡ t → option_and_then (λ sum. option_map (λ least. sum +ℤ least) t) s ≡ Some v → ((u : ℤ) → sum_some k f ≡ Some u → unsigned_abs u ≤ size_below k g * c + k * e) → unsigned_abs v ≤ (size_below k g + g k) * c + suc k * e
    by_front None p t q d2 r = absurd (let x = d2 in cc)
    by_front (Some sum) p None q d2 r = absurd (let x = d2 in cc)
    by_front (Some sum) p (Some least) q d2 r =
        let whole = same_some d2 in
        let split : (size_below k g + g k) * c ≡ size_below k g * c + g k * c = mul_comm (size_below k g + g k) c ∙ mul-add c (size_below k g) (g k) ∙ omega (arith, mul_comm c (size_below k g), mul_comm c (g k)) in
        omega (arith, ap unsigned_abs (sym whole), abs-add sum least, r sum p, h k least (omega arith) q, split, suc-mul k e)

-- what the costs span, times the factors of the first scenarios
pub line_room : (run : Run) (k : ℕ) → k ≤ scenarios run → size_below k (λ s. unsigned_abs (factor_of run s)) * cost_span run.program ≤ 2 ^ 119
line_room run k h =
    let same : cost_span run.program ≤ cost_span run.program = omega arith in
    let total = (reach_parts run).0 in
    omega (arith, mul-le-mul (factors_le run k h) same, total)

-- the sum of the least values of the first scenarios
pub wait_small : (run : Run) (k : ℕ) (v : ℤ) → k ≤ scenarios run → sum_some k (λ s. least_of (problem_in run s)) ≡ Some v → unsigned_abs v ≤ 2 ^ 120
wait_small run k v h e =
    let bound = sum_span (λ s. least_of (problem_in run s)) (λ s. unsigned_abs (factor_of run s)) (cost_span run.program) 0 k v (λ s u l d. omega (arith, least_abs (problem_in run s) u (run_filled run) d, plain_span run s (omega arith))) e in
    omega (arith, bound, line_room run k h)
