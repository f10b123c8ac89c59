-- The sums of least values of all scenarios, and priced problems, stay small.

use Rattle.std.proofs.Common.{arith, ap, ◌∙◌, ◌≡◌, ℕ, ◌+◌, ◌*◌, ◌^◌, ◌<◌, ◌≤◌, List, length, ℤ, ◌+ℤ◌, unsigned_abs, Some}
use Rattle.std.proofs.lemmas.List.FromFn.{length-map-range_with_len}
use Rattle.std.proofs.Math.Nat.{mul-le-mul}
use Rattle.base_words.specs.Sums.{number_at}
use Rattle.boxed_problem.specs.Data.{Problem, problem_of}
use Rattle.boxed_problem.specs.BoxedFacts.{IsBoxed}
use Rattle.boxed_problem.specs.declared.problem.Boxed.{Boxed}
use Rattle.sp_model.specs.Changes.{sides}
use Rattle.run_calls.specs.MultiplierTests.{AreSized}
use Rattle.sp_model.specs.Plans.{multiplier_of, with_prices}
use Rattle.sp_model.specs.Problems.{factor_of, least_of, problem_in, scenarios, sum_some}
use Rattle.sp_model.specs.Reaching.{hedge_reach}
use Rattle.sp_model.specs.declared.plan.Multipliers.{Multipliers}
use Rattle.sp_model.specs.declared.run.Run.{Run}
use Rattle.sp_model.proofs.ScenarioPoints.{run_filled}
use Rattle.sp_model.proofs.Bounds.{factor_abs, reach_parts}
use Rattle.sp_model.proofs.DataFacts.{boxed_is}
use Rattle.put_words.specs.Objectives.{with_line}
use Rattle.sp_model.proofs.CostSpans.{cost_span}
use Rattle.sp_model.proofs.LeastValues.{least_abs}
use Rattle.put_words.proofs.Spans.{priced_span}
use Rattle.sp_model.proofs.LeastSums.{line_room, sum_span}

-- the sum of the least values of the first scenarios, with multipliers as prices
pub dual_small : (run : Run) (multipliers : Multipliers) (k : ℕ) (v : ℤ) → AreSized run multipliers → k ≤ scenarios run → sum_some k (λ s. least_of (with_prices (problem_in run s) (multiplier_of run multipliers s))) ≡ Some v → unsigned_abs v ≤ 2 ^ 121
dual_small run multipliers k v sized h e =
    let hedge = hedge_reach run.program run.options run.total run.nonleaf in
    let bound = sum_span (λ s. least_of (with_prices (problem_in run s) (multiplier_of run multipliers s))) (λ s. unsigned_abs (factor_of run s)) (cost_span run.program) hedge k v (λ s u l d. omega (arith, least_abs (with_prices (problem_in run s) (multiplier_of run multipliers s)) u (run_filled run) d, priced_span run multipliers s sized (omega arith))) e in
    let many : k ≤ 2 * length run.program.scenarios = omega arith in
    let same : hedge ≤ hedge = omega arith in
    omega (arith, bound, line_room run k h, mul-le-mul many same, (reach_parts run).1)

-- a priced problem is one that fits its type
priced_boxed : (run : Run) (multipliers : Multipliers) (s : ℕ) → AreSized run multipliers → s < scenarios run →
    IsBoxed (sides run.program) (problem_in run s).rows (problem_in run s).entries (problem_in run s).constant (with_prices (problem_in run s) (multiplier_of run multipliers s)).line (problem_in run s).square
priced_boxed run multipliers s sized l =
    let old = boxed_is run s l in
    let hedge = hedge_reach run.program run.options run.total run.nonleaf in
    let same : cost_span run.program ≤ cost_span run.program = omega arith in
    let line = mul-le-mul (factor_abs run s l) same in
    let some : 1 ≤ scenarios run = run.facts.counts.some_scenarios in
    let one : 1 ≤ 2 * length run.program.scenarios = omega arith in
    let same_hedge : hedge ≤ hedge = omega arith in
    let part = mul-le-mul one same_hedge in
    let total = (reach_parts run).0 in
    record {
      lines = length-map-range_with_len (λ j. number_at (problem_in run s).line j +ℤ multiplier_of run multipliers s j) 0 (length (sides run.program));
      squares = old.squares;
      filled = old.filled;
      convex = old.convex;
      places = old.places;
      ascending = old.ascending;
      value_fits = omega (arith, priced_span run multipliers s sized l, line, total, part, (reach_parts run).1);
      rows_fit = old.rows_fit;
    }

-- a scenario's problem with its costs raised by the prices
pub priced_ready : (run : Run) (multipliers : Multipliers) (s : ℕ) (b : Boxed) (line : List ℤ) → AreSized run multipliers → s < scenarios run → problem_of b ≡ problem_in run s →
    line ≡ (with_prices (problem_in run s) (multiplier_of run multipliers s)).line → IsBoxed b.columns b.rows b.entries b.constant line b.square
priced_ready run multipliers s b line sized l e d =
    let columns : b.columns ≡ (problem_in run s).columns = ap (λ (p : Problem). p.columns) e in
    let rows : b.rows ≡ (problem_in run s).rows = ap (λ (p : Problem). p.rows) e in
    let entries : b.entries ≡ (problem_in run s).entries = ap (λ (p : Problem). p.entries) e in
    let constant : b.constant ≡ (problem_in run s).constant = ap (λ (p : Problem). p.constant) e in
    let square : b.square ≡ (problem_in run s).square = ap (λ (p : Problem). p.square) e in
    rw (columns, rows, entries, constant, d, square) (priced_boxed run multipliers s sized l)

priced_same : (run : Run) (multipliers : Multipliers) (s : ℕ) (p : Problem) (line : List ℤ) → p ≡ problem_in run s →
    line ≡ (with_prices (problem_in run s) (multiplier_of run multipliers s)).line → with_line p line ≡ with_prices (problem_in run s) (multiplier_of run multipliers s)
priced_same run multipliers s p line e d = ap (λ (o : Problem). with_line o line) e ∙ ap (λ z. with_line (problem_in run s) z) d
