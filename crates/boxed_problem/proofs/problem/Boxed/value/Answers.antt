use Rattle.std.proofs.Common.{arith, ◌≡◌, ◌+◌, ◌<◌, length, ◌+ℤ◌, FitsSigned, to_z, w64, rules}
use Rattle.std.proofs.lemmas.Int.{to_z-of_z}
use Rattle.std.specs.Int.{w128}
use Rattle.boxed_problem.specs.Objective.{value_part}
use Rattle.base_words.specs.Sums.{number_at}
use Rattle.base_words.proofs.SumBounds.{sum_below-next}
use Rattle.boxed_problem.proofs.Magnitudes.{column_fits, value_fits_upto}
use Rattle.boxed_problem.proofs.problem.Boxed.value.Goals as goal

pub column_value-sum-requires : goal.column_value-sum-requires
column_value-sum-requires c =
    let b = c.args.self.now in
    let short : c.loop-j.j < length b.columns = omega arith in
    let fl : FitsSigned w128 (number_at c.as_slice-line.result.now c.loop-j.j) = search rules in
    let fs : FitsSigned w128 (number_at c.as_slice-square.result.now c.loop-j.j) = search rules in
    let fx : FitsSigned w64 (number_at c.as_slice-values.result.now c.loop-j.j) = search rules in
    simp to_z-of_z (rw (c.as_slice-line.ensures, c.as_slice-square.ensures, c.as_slice-values.ensures)
    (column_fits b.columns b.constant b.line b.square c.args.point.now c.loop-j.j c.requires short b.facts.value_fits))

pub overflow_add-sum : goal.overflow_add-sum
overflow_add-sum c =
    let b = c.args.self.now in
    let fl : FitsSigned w128 (number_at c.as_slice-line.result.now c.loop-j.j) = search rules in
    let fs : FitsSigned w128 (number_at c.as_slice-square.result.now c.loop-j.j) = search rules in
    let fx : FitsSigned w64 (number_at c.as_slice-values.result.now c.loop-j.j) = search rules in
    let fp : FitsSigned w128 c.column_value-sum.result = search rules in
    let part : c.column_value-sum.result ≡ value_part b.line b.square c.args.point.now c.loop-j.j =
    rw (c.as_slice-line.ensures, c.as_slice-square.ensures, c.as_slice-values.ensures) at (simp to_z-of_z at c.column_value-sum.ensures) in
    let next = sum_below-next b.constant (to_z w128 c.loop-j.sum-bits) c.column_value-sum.result c.loop-j.j (value_part b.line b.square c.args.point.now) c.loop-j.invariant part in
    simp to_z-of_z (rw next (value_fits_upto b.columns b.constant b.line b.square c.args.point.now (c.loop-j.j + 1) c.requires (omega arith) b.facts.value_fits))

pub loop-j-preserved : goal.loop-j-preserved
loop-j-preserved c =
    let b = c.args.self.now in
    let fl : FitsSigned w128 (number_at c.as_slice-line.result.now c.loop-j.j) = search rules in
    let fs : FitsSigned w128 (number_at c.as_slice-square.result.now c.loop-j.j) = search rules in
    let fx : FitsSigned w64 (number_at c.as_slice-values.result.now c.loop-j.j) = search rules in
    let fp : FitsSigned w128 c.column_value-sum.result = search rules in
    let part : c.column_value-sum.result ≡ value_part b.line b.square c.args.point.now c.loop-j.j =
    rw (c.as_slice-line.ensures, c.as_slice-square.ensures, c.as_slice-values.ensures) at (simp to_z-of_z at c.column_value-sum.ensures) in
    let next = sum_below-next b.constant (to_z w128 c.loop-j.sum-bits) c.column_value-sum.result c.loop-j.j (value_part b.line b.square c.args.point.now) c.loop-j.invariant part in
    let fits = value_fits_upto b.columns b.constant b.line b.square c.args.point.now (c.loop-j.j + 1) c.requires (omega arith) b.facts.value_fits in
    let both : FitsSigned w128 (to_z w128 c.loop-j.sum-bits +ℤ c.column_value-sum.result) = rw next fits in
    simp to_z-of_z next
