-- How great the objective of a scenario becomes: its factor times what the costs span.

use Rattle.std.proofs.Common.{arith, ap, ◌∙◌, ◌≡◌, ℕ, ◌+◌, ◌*◌, ◌<◌, ◌≤◌, length, ◌*ℤ◌, unsigned_abs}
use Rattle.std.proofs.lemmas.Int.{unsigned_abs-mul}
use Rattle.std.proofs.lemmas.List.{length-map}
use Rattle.std.proofs.Math.Nat.{mul-add, mul-le-mul, mul_assoc}
use Rattle.base_words.specs.Sums.{number_at, size_below}
use Rattle.base_words.proofs.SumBounds.{size_below-mono, size_below-times}
use Rattle.boxed_problem.specs.BoxedFacts.{column_size, value_size}
use Rattle.sp_model.specs.Changes.{side_of, sides}
use Rattle.sp_model.specs.Problems.{data_at, factor_of, problem_in, scenarios}
use Rattle.sp_model.specs.Reaching.{box_reach, cost_reach}
use Rattle.sp_model.specs.declared.program.Program.{Program}
use Rattle.sp_model.specs.declared.run.Run.{Run}
use Rattle.sp_model.proofs.ProgramReach.{scenario_cost_le}
use Rattle.sp_model.proofs.Sizes.{times_at, zeros_at}

-- the cost of a column in a scenario
cost_le : (run : Run) (s j : ℕ) → s < scenarios run → unsigned_abs (number_at (data_at run s).costs j) ≤ cost_reach run.program j
cost_le run s j l = scenario_cost_le run.program s j l

-- the magnitude of a scenario's costs, but for their factor
abbrev pub cost_span : Program → ℕ
cost_span program = unsigned_abs program.constant + size_below (length program.columns) (λ j. cost_reach program j * box_reach program j)

-- what a column of the scenario's problem adds
abbrev pub line_part : Run → ℕ → ℕ → ℕ
line_part run s j = unsigned_abs (number_at (problem_in run s).line j) * box_reach run.program j

line_part_le : (run : Run) (s j : ℕ) → s < scenarios run → line_part run s j ≤ unsigned_abs (factor_of run s) * (cost_reach run.program j * box_reach run.program j)
line_part_le run s j l =
    let costs = (data_at run s).costs in
    let m = box_reach run.program j in
    let f = unsigned_abs (factor_of run s) in
    let line : unsigned_abs (number_at (problem_in run s).line j) ≡ f * unsigned_abs (number_at costs j) = ap unsigned_abs (times_at (factor_of run s) costs j) ∙ unsigned_abs-mul (factor_of run s) (number_at costs j) in
    let same : f ≤ f = omega arith in
    let same_box : m ≤ m = omega arith in
    let wide = mul-le-mul (mul-le-mul same (cost_le run s j l)) same_box in
    omega (arith, ap (λ n. n * m) line, wide, mul_assoc f (cost_reach run.program j) m)

-- the parts of all columns, with the constant
pub line_parts_le : (run : Run) (s : ℕ) → s < scenarios run → unsigned_abs (factor_of run s *ℤ run.program.constant) + size_below (length run.program.columns) (line_part run s) ≤ unsigned_abs (factor_of run s) * cost_span run.program
line_parts_le run s l =
    let n = length run.program.columns in
    let f = unsigned_abs (factor_of run s) in
    let c : ℕ → ℕ = λ j. cost_reach run.program j * box_reach run.program j in
    let parts = size_below-mono n (line_part run s) (λ j. f * c j) (λ j h. line_part_le run s j l) in
    omega (arith, unsigned_abs-mul (factor_of run s) run.program.constant, parts, size_below-times n f c, mul-add f (unsigned_abs run.program.constant) (size_below n c))

-- the size of a scenario's own problem
pub plain_span : (run : Run) (s : ℕ) → s < scenarios run → value_size (sides run.program) (problem_in run s).constant (problem_in run s).line (problem_in run s).square ≤ unsigned_abs (factor_of run s) * cost_span run.program
plain_span run s l =
    let n = length run.program.columns in
    let costs = (data_at run s).costs in
    let each = size_below-mono n (column_size (sides run.program) (problem_in run s).line (problem_in run s).square) (line_part run s) (λ j h. flat j (ap unsigned_abs (zeros_at costs j))) in
    let long = ap (λ k. size_below k (column_size (sides run.program) (problem_in run s).line (problem_in run s).square)) (length-map run.program.columns side_of) in
    omega (arith, each, long, line_parts_le run s l)
  where
    flat : (j : ℕ) → unsigned_abs (number_at (problem_in run s).square j) ≡ 0 → column_size (sides run.program) (problem_in run s).line (problem_in run s).square j ≤ line_part run s j
    flat j e = omega (arith, ap (λ k. k * (box_reach run.program j * box_reach run.program j)) e)
