-- What a search begins with.
use Rattle.std.proofs.Common.{arith, List, length, ℤ, pos, ◌+ℤ◌, Some, FitsSigned}
use Rattle.std.proofs.lemmas.Int.{ints}
use Rattle.std.specs.Int.{w128}
use Rattle.boxed_problem.specs.Data.{problem_of}
use Rattle.boxed_problem.specs.BoxedFacts.{column_size}
use Rattle.boxed_problem.specs.Objective.{value_part}
use Rattle.base_words.specs.Sums.{number_at, sum_below}
use Rattle.boxed_problem.specs.declared.problem.Boxed.{Boxed}
use Rattle.base_words.proofs.Magnitudes.{abs-add, fits_from_abs}
use Rattle.boxed_problem.proofs.Magnitudes.{abs-curve, column_within}
use Rattle.base_words.proofs.SumBounds.{sum_below-abs}
use Rattle.branch_bound.specs.Narrowing.{IsBar, IsKnown}

-- one more than the value of a feasible point fits
pub bar_fits : (b : Boxed) (value : ℤ) → IsKnown (problem_of b) (Some value) → FitsSigned w128 (value +ℤ pos 1)
bar_fits b value k =
    let n = length b.columns in
    let x = k.0 in
    let s = sum_below-abs n (value_part b.line b.square x) (column_size b.columns b.line b.square) (λ j l. let p = abs-curve (number_at b.line j) (number_at b.square j) (number_at x j) in omega (arith, p, column_within b.columns b.line b.square x j k.1.inside l)) in
    let a = abs-add b.constant (sum_below n (value_part b.line b.square x)) in
    let c = abs-add value (pos 1) in
    fits_from_abs (value +ℤ pos 1) (omega (arith, ints, s, a, c, k.2, b.facts.value_fits))

-- some feasible point is below one more than a known value
pub bar_is : (b : Boxed) (value : ℤ) (point : List ℤ) → IsKnown (problem_of b) (Some value) → IsBar (problem_of b) (Some (record { point = point; value = value +ℤ pos 1 }))
bar_is b value point k = (k.0, k.1, omega (arith, ints, k.2))
