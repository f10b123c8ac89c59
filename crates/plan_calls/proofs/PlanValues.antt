-- No product and no sum leaves 128 bits on the way to the cost of a plan.

use Rattle.std.proofs.Common.{arith, sym, ap, ◌∙◌, ◌≡◌, ℕ, ◌+◌, ◌*◌, ◌^◌, ◌<◌, ◌≤◌, List, length, ℤ, pos, ◌+ℤ◌, ◌*ℤ◌, unsigned_abs, FitsSigned}
use Rattle.std.specs.Int.{w128}
use Rattle.std.proofs.lemmas.Int.{ints}
use Rattle.std.proofs.lemmas.List.{length-map}
use Rattle.std.proofs.Math.Nat.{mul-le-mul, mul_comm}
use Rattle.base_words.specs.Sums.{number_at, sum_below}
use Rattle.base_words.proofs.Magnitudes.{abs-add, fits_from_abs}
use Rattle.base_words.proofs.SumBounds.{size_below-times, sum_below-abs}
use Rattle.boxed_problem.specs.BoxedFacts.{column_size}
use Rattle.boxed_problem.specs.Objective.{curve, value_of, value_part}
use Rattle.boxed_problem.specs.Points.{InBox}
use Rattle.boxed_problem.proofs.Magnitudes.{abs-curve, column_fits, column_within, value_fits_upto}
use Rattle.sp_model.specs.Changes.{side_of, sides}
use Rattle.sp_model.specs.Plans.{IsPlan, point_of}
use Rattle.sp_model.specs.Problems.{data_at, factor_of, problem_in, scenarios}
use Rattle.sp_model.specs.declared.plan.Plan.{Plan}
use Rattle.sp_model.specs.declared.run.Run.{Run}
use Rattle.sp_model.proofs.Bounds.{reach_parts, value_fits}
use Rattle.sp_model.proofs.Sizes.{times_at, zeros_at}
use Rattle.sp_model.proofs.CostSpans.{cost_span, plain_span}
use Rattle.sp_model.proofs.LeastSums.{factors_le}

pub line_is : (run : Run) (s j : ℕ) → number_at (problem_in run s).line j ≡ (factor_of run s *ℤ number_at (data_at run s).costs j)
line_is run s j = times_at (factor_of run s) (data_at run s).costs j

pub flat : (run : Run) (s j : ℕ) → number_at (problem_in run s).square j ≡ pos 0
flat run s j = zeros_at (data_at run s).costs j

pub columns_long : (run : Run) → length (sides run.program) ≡ length run.program.columns
columns_long run = length-map run.program.columns side_of

-- what a column adds
pub part_fits : (run : Run) (s j : ℕ) (x : List ℤ) → s < scenarios run → j < length run.program.columns → InBox (sides run.program) x →
    unsigned_abs (number_at (problem_in run s).line j) * unsigned_abs (number_at x j) + unsigned_abs (pos 0) * (unsigned_abs (number_at x j) * unsigned_abs (number_at x j)) ≤ 2 ^ 125
part_fits run s j x there l inside =
    let p = problem_in run s in
    let v = unsigned_abs (number_at x j) in
    let own = column_fits (sides run.program) p.constant p.line p.square x j inside (omega (arith, l, columns_long run)) (value_fits run s there) in
    let none = ap (λ z. unsigned_abs z * (v * v)) (flat run s j) in
    omega (arith, own, none)

pub part_is : (run : Run) (s j : ℕ) (x : List ℤ) (line : ℤ) → line ≡ number_at (problem_in run s).line j → curve line (pos 0) (number_at x j) ≡ value_part (problem_in run s).line (problem_in run s).square x j
part_is run s j x line e = ap (λ a. curve a (pos 0) (number_at x j)) e ∙ ap (λ b. curve (number_at (problem_in run s).line j) b (number_at x j)) (sym (flat run s j))

-- the constant and the parts of the first columns
pub value_small : (run : Run) (s j : ℕ) (x : List ℤ) → s < scenarios run → j ≤ length run.program.columns → InBox (sides run.program) x →
    FitsSigned w128 ((problem_in run s).constant +ℤ sum_below j (value_part (problem_in run s).line (problem_in run s).square x))
value_small run s j x there l inside =
    let p = problem_in run s in
    value_fits_upto (sides run.program) p.constant p.line p.square x j inside (omega (arith, l, columns_long run)) (value_fits run s there)

pub value_is : (run : Run) (s j : ℕ) (x : List ℤ) (v : ℤ) → j ≡ length run.program.columns → v ≡ ((problem_in run s).constant +ℤ sum_below j (value_part (problem_in run s).line (problem_in run s).square x)) → v ≡ value_of (problem_in run s) x
value_is run s j x v all e =
    e ∙ ap (λ n. (problem_in run s).constant +ℤ sum_below n (value_part (problem_in run s).line (problem_in run s).square x)) (all ∙ sym (columns_long run))

-- the magnitude of the value of a scenario's point
value_abs : (run : Run) (s : ℕ) (x : List ℤ) → s < scenarios run → InBox (sides run.program) x → unsigned_abs (value_of (problem_in run s) x) ≤ unsigned_abs (factor_of run s) * cost_span run.program
value_abs run s x there inside =
    let p = problem_in run s in
    let n = length (sides run.program) in
    let size = column_size (sides run.program) p.line p.square in
    let parts = sum_below-abs n (value_part p.line p.square x) size (λ k l. omega (arith, abs-curve (number_at p.line k) (number_at p.square k) (number_at x k), column_within (sides run.program) p.line p.square x k inside l)) in
    omega (arith, abs-add p.constant (sum_below n (value_part p.line p.square x)), parts, plain_span run s there)

-- the value of scenario s's point
abbrev pub point_value : Run → Plan → ℕ → ℤ
point_value run plan s = value_of (problem_in run s) (point_of plan s)

-- the values of the first scenarios together
pub values_fit : (run : Run) (plan : Plan) (k : ℕ) → IsPlan run plan → k ≤ scenarios run → FitsSigned w128 (sum_below k (point_value run plan))
values_fit run plan k is h =
    let span = cost_span run.program in
    let factor : ℕ → ℕ = λ s. unsigned_abs (factor_of run s) in
    let each = sum_below-abs k (point_value run plan) (λ s. span * factor s) (λ s l. omega (arith, value_abs run s (point_of plan s) (omega (arith, l, h)) (is.feasible s (omega (arith, l, h))).inside, mul_comm span (factor s))) in
    let times = size_below-times k span factor in
    let same : span ≤ span = omega arith in
    let all = mul-le-mul same (factors_le run k h) in
    let turn = mul_comm span (unsigned_abs run.options.scale * unsigned_abs run.total) in
    let total = (reach_parts run).0 in
    fits_from_abs (sum_below k (point_value run plan)) (omega (arith, each, times, all, turn, total))

-- the constant alone
pub begun : (run : Run) (s : ℕ) (x : List ℤ) (v : ℤ) → v ≡ (factor_of run s *ℤ run.program.constant) → v ≡ ((problem_in run s).constant +ℤ sum_below 0 (value_part (problem_in run s).line (problem_in run s).square x))
begun run s x v e = omega (arith, ints, e)
