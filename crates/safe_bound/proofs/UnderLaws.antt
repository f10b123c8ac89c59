-- the objective of a reduced problem stays under the scale times the problem's, where the rows are met

use Rattle.std.proofs.Common.{arith, refl, ap, sym, ◌∙◌, ◌≡◌, ◌<◌, ◌≤◌, Bool, true, false, ◌==◌, ℕ, List, length, ℤ, pos, ◌*ℤ◌, ◌≤ℤ◌, if◌then◌else◌}
use Rattle.std.proofs.lemmas.Int.{ints}
use Rattle.std.proofs.Math.IntN.{*ℤ-zero}
use Rattle.std.specs.List.{All}
use Rattle.boxed_problem.specs.Data.{Problem}
use Rattle.boxed_problem.specs.Objective.{curve, value_of, value_part}
use Rattle.boxed_problem.specs.Points.{InBox}
use Rattle.boxed_problem.specs.PriceFit.{FitsPrices}
use Rattle.boxed_problem.specs.Sides.{reach, side_at}
use Rattle.base_words.specs.Sums.{number_at, sum_below}
use Rattle.boxed_problem.specs.declared.parts.Prices.{Prices}
use Rattle.boxed_problem.specs.declared.parts.Side.{Side}
use Rattle.boxed_problem.proofs.RowTests.{feasible_from}
use Rattle.base_words.proofs.Magnitudes.{abs_between, abs_none}
use Rattle.base_words.proofs.ListSumsByNumber.{sum_below-same}
use Rattle.safe_bound.specs.PriceBound.{reduced_cost, scaled_square}
use Rattle.safe_bound.specs.ReducedOf.{IsReduced, IsUnder}
use Rattle.safe_bound.specs.Reducing.{kept_cost, kept_square}
use Rattle.safe_bound.specs.declared.reduced.Reduced.{Reduced}
use Rattle.safe_bound.proofs.PriceLaws.{by_columns, limits_below}

-- at 0 nothing is added
curve_zero : (line square x : ℤ) → x ≡ pos 0 → curve line square x ≡ pos 0
curve_zero line square x e =
    ap (curve line square) e ∙ omega (arith, ints, *ℤ-zero line, *ℤ-zero square)

-- a value on a side that reaches nowhere is 0
at_zero : (s : Side) (x : ℤ) → reach s ≡ 0 → s.lower ≤ℤ x → x ≤ℤ s.upper → x ≡ pos 0
at_zero s x e l u = abs_none x (omega (arith, e, abs_between s.lower s.upper x l u))

-- at a point of the box the numbers that are kept give what the reduced costs give
kept_curve : (b : Problem) (prices : Prices) (x : List ℤ) (j : ℕ) → InBox b.columns x → j < length b.columns →
    curve (kept_cost b prices j) (kept_square b prices j) (number_at x j) ≡ curve (reduced_cost b prices j) (scaled_square b prices j) (number_at x j)
kept_curve b prices x j i l = by_test (reach (side_at b.columns j) == 0) refl
  where
    by_test : (t : Bool) → (reach (side_at b.columns j) == 0) ≡ t → curve (if t then pos 0 else reduced_cost b prices j) (if t then pos 0 else scaled_square b prices j) (number_at x j) ≡ curve (reduced_cost b prices j) (scaled_square b prices j) (number_at x j)
    by_test true e =
        let none : reach (side_at b.columns j) ≡ 0 = grind arith in
        let zero' = at_zero (side_at b.columns j) (number_at x j) none (i.lower j l) (i.upper j l) in
        curve_zero (pos 0) (pos 0) (number_at x j) zero' ∙ sym (curve_zero (reduced_cost b prices j) (scaled_square b prices j) (number_at x j) zero')
    by_test false e = refl

pub reduced_under : (b : Problem) (prices : Prices) (r : Reduced) → All (λ e. (e.row < length b.rows) × (e.column < length b.columns)) b.entries → FitsPrices b prices → IsReduced b prices r → IsUnder b r
reduced_under b prices r places f h = record {
  columns = h.columns;
  below = λ x i m.
      let a = by_columns b prices x places in
      let l = limits_below b prices x f.signs (feasible_from b x i m) in
      let long = ap (λ (cs : List Side). sum_below (length cs) (value_part r.line r.square x)) h.columns in
      let same = sum_below-same (length b.columns) (value_part r.line r.square x) (λ j. curve (reduced_cost b prices j) (scaled_square b prices j) (number_at x j))
      (λ j k. ap (λ z. curve z (number_at r.square j) (number_at x j)) (h.line j k)
      ∙ (ap (λ z. curve (kept_cost b prices j) z (number_at x j)) (h.square j k) ∙ kept_curve b prices x j i k)) in
      let scale = ap (λ z. z *ℤ value_of b x) h.scale in
      omega (arith, ints, a, l, long, same, h.constant, scale);
}
