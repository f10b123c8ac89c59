-- Costs with prices fit; sums of least values with prices, and why there is none.

use Rattle.std.proofs.Common.{arith, refl, ap, ◌≡◌, ℕ, ◌+◌, ◌*◌, ◌^◌, ◌<◌, ◌≤◌, nat_lt, Bool, true, false, length, ℤ, pos, ◌+ℤ◌, unsigned_abs, FitsSigned, Some, if◌then◌else◌}
use Rattle.std.proofs.lemmas.Int.{ints}
use Rattle.std.specs.Int.{w128}
use Rattle.base_words.specs.Sums.{number_at}
use Rattle.base_words.proofs.Magnitudes.{abs-add, fits_from_abs}
use Rattle.run_calls.specs.MultiplierTests.{AreSized, most_at}
use Rattle.run_calls.proofs.MostBounds.{most_small}
use Rattle.sp_model.specs.ScenarioPoints.{HasPoint, HavePoints}
use Rattle.sp_model.proofs.DataFacts.{line_small}
use Rattle.sp_model.specs.Plans.{multiplier_of}
use Rattle.sp_model.specs.Problems.{least_of, problem_in, scenarios}
use Rattle.sp_model.specs.declared.plan.Multipliers.{Multipliers}
use Rattle.sp_model.specs.declared.run.Run.{Run}
use Rattle.sp_model.proofs.LeastValues.{least_point}
use Rattle.sp_model.proofs.ScenarioPoints.{first_infeasible, run_filled}
use Rattle.base_words.proofs.NumberTests.{less_from_test}
use Rattle.wait_and_see.proofs.Points.{spent_at}
use Rattle.dual_value.specs.Duals.{DualFails, LeastFails, priced_at, priced_in}
use Rattle.dual_value.specs.declared.summing.DualFault.{DualFault}
use Rattle.dual_value.specs.declared.summing.DualFault.TheVariants.{NoPoint, Spent, Memory}

price_small : (run : Run) (multipliers : Multipliers) (s j : ℕ) → AreSized run multipliers → s < scenarios run → unsigned_abs (multiplier_of run multipliers s j) ≤ 2 ^ 120
price_small run multipliers s j sized l = by_test (nat_lt j run.nonleaf) refl
  where
    by_test : (b : Bool) → nat_lt j run.nonleaf ≡ b → unsigned_abs (if b then number_at multipliers.values (s * run.nonleaf + j) else pos 0) ≤ 2 ^ 120
    by_test true e =
        let below = less_from_test j run.nonleaf e in
        let own : unsigned_abs (number_at multipliers.values (s * run.nonleaf + j)) ≤ most_at run j = omega (arith, sized s j l below, ap (λ b. unsigned_abs (if b then number_at multipliers.values (s * run.nonleaf + j) else pos 0)) e) in
        omega (arith, own, most_small run j below)
    by_test false e = omega (arith, ints)

-- the cost of a column with its price
pub priced_fits : (run : Run) (multipliers : Multipliers) (s j : ℕ) → AreSized run multipliers → s < scenarios run → j < length run.program.columns → FitsSigned w128 (priced_at run multipliers s j)
priced_fits run multipliers s j sized l h =
    let cost = number_at (problem_in run s).line j in
    let price = multiplier_of run multipliers s j in
    fits_from_abs (cost +ℤ price) (omega (arith, abs-add cost price, line_small run s j l h, price_small run multipliers s j sized l))

-- a scenario with a least value has a point, whatever the prices
pub point_of : (run : Run) (multipliers : Multipliers) (s : ℕ) (value : ℤ) → least_of (priced_in run multipliers s) ≡ Some value → HasPoint run s
point_of run multipliers s value has =
    let point = least_point (priced_in run multipliers s) value (run_filled run) has in
    let feasible = point.1 in
    (point.0, record { inside = feasible.inside; rows = feasible.rows })

-- a scenario that isn't solved ends the sum
pub ended_at : (run : Run) (multipliers : Multipliers) (budget s : ℕ) (fault : DualFault) → s < scenarios run → HavePoints run s → LeastFails run multipliers budget s fault → DualFails run multipliers budget fault
ended_at run multipliers budget s (NoPoint scenario) there before (same, none) = first_infeasible run s scenario there before same none
ended_at run multipliers budget s (Spent scenario opened) there before (same, all, more) = spent_at run (priced_in run multipliers) budget s scenario opened there before same all more
ended_at run multipliers budget s Memory there before free = tt
