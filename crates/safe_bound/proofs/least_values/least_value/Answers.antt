use Rattle.std.proofs.Common.{arith, ◌≡◌, ◌+◌, ◌<◌, ◌≤◌, ◌*◌, ◌^◌, length, ◌+ℤ◌, FitsSigned, to_z, unsigned_abs, rules}
use Rattle.std.proofs.lemmas.Int.{to_z-of_z}
use Rattle.std.specs.Int.{w128}
use Rattle.safe_bound.specs.Leasts.{least_part}
use Rattle.boxed_problem.specs.Sides.{reach, side_at}
use Rattle.base_words.specs.Sums.{number_at}
use Rattle.boxed_problem.proofs.Narrower.{column_size-le, column_size-within}
use Rattle.safe_bound.proofs.LeastLaws.{least_fits_upto}
use Rattle.base_words.proofs.SumBounds.{sum_below-next}
use Rattle.safe_bound.proofs.least_values.least_value.Goals as goal

pub column_least-sum-requires-clause-fits : goal.column_least-sum-requires-clause-fits
column_least-sum-requires-clause-fits c =
    let b = c.args.problem.now in
    let j = c.loop-j.j in
    let fl : FitsSigned w128 (number_at c.as_slice-line.result.now j) = search rules in
    let fs : FitsSigned w128 (number_at c.as_slice-square.result.now j) = search rules in
    let short : j < length b.columns = omega arith in
    let inner = column_size-within c.args.sides.now b.columns b.line b.square j c.requires in
    let outer = column_size-le b.columns b.constant b.line b.square j short in
    let most : unsigned_abs (number_at b.line j) * reach (side_at c.args.sides.now j) + unsigned_abs (number_at b.square j) * (reach (side_at c.args.sides.now j) * reach (side_at c.args.sides.now j)) ≤ 2 ^ 125 =
    omega (arith, inner, outer, b.facts.value_fits) in
    simp to_z-of_z (rw (c.as_slice-line.ensures, c.as_slice-square.ensures, c.as_slice-box_sides.ensures) most)

pub overflow_add-sum : goal.overflow_add-sum
overflow_add-sum c =
    let b = c.args.problem.now in
    let j = c.loop-j.j in
    let fl : FitsSigned w128 (number_at c.as_slice-line.result.now j) = search rules in
    let fs : FitsSigned w128 (number_at c.as_slice-square.result.now j) = search rules in
    let fp : FitsSigned w128 c.column_least-sum.result = search rules in
    let part : c.column_least-sum.result ≡ least_part b.line b.square c.args.sides.now j =
    rw (c.as_slice-line.ensures, c.as_slice-square.ensures, c.as_slice-box_sides.ensures) at (simp to_z-of_z at c.column_least-sum.ensures) in
    let next = sum_below-next b.constant (to_z w128 c.loop-j.sum-bits) c.column_least-sum.result j (least_part b.line b.square c.args.sides.now) c.loop-j.invariant part in
    simp to_z-of_z (rw next (least_fits_upto b.columns b.constant b.line b.square c.args.sides.now (j + 1) c.requires (omega arith) (omega (arith, b.facts.value_fits))))

pub loop-j-preserved : goal.loop-j-preserved
loop-j-preserved c =
    let b = c.args.problem.now in
    let j = c.loop-j.j in
    let fl : FitsSigned w128 (number_at c.as_slice-line.result.now j) = search rules in
    let fs : FitsSigned w128 (number_at c.as_slice-square.result.now j) = search rules in
    let fp : FitsSigned w128 c.column_least-sum.result = search rules in
    let part : c.column_least-sum.result ≡ least_part b.line b.square c.args.sides.now j =
    rw (c.as_slice-line.ensures, c.as_slice-square.ensures, c.as_slice-box_sides.ensures) at (simp to_z-of_z at c.column_least-sum.ensures) in
    let next = sum_below-next b.constant (to_z w128 c.loop-j.sum-bits) c.column_least-sum.result j (least_part b.line b.square c.args.sides.now) c.loop-j.invariant part in
    let fits = least_fits_upto b.columns b.constant b.line b.square c.args.sides.now (j + 1) c.requires (omega arith) (omega (arith, b.facts.value_fits)) in
    let both : FitsSigned w128 (to_z w128 c.loop-j.sum-bits +ℤ c.column_least-sum.result) = rw next fits in
    simp to_z-of_z next
