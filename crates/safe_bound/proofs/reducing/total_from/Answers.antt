use Rattle.std.proofs.Common.{arith, ap, sym, subst, ◌∙◌, ◌≡◌, ◌*◌, ◌^◌, ◌<◌, ◌≤◌, length, unsigned_abs, ◌+◌, ◌+ℤ◌, FitsSigned, to_z, rules}
use Rattle.std.proofs.lemmas.Int.{to_z-of_z}
use Rattle.std.specs.Int.{w128}
use Rattle.boxed_problem.specs.Sides.{reach, side_at}
use Rattle.base_words.specs.Sums.{number_at, sum_below}
use Rattle.safe_bound.specs.Leasts.{least_part}
use Rattle.base_words.proofs.SumBounds.{sum_below-next}
use Rattle.boxed_problem.proofs.Narrower.{column_size-le, column_size-within}
use Rattle.safe_bound.proofs.LeastLaws.{least_fits_upto}
use Rattle.safe_bound.proofs.reducing.total_from.Goals as goal

pub column_least-total-requires-clause-fits : goal.column_least-total-requires-clause-fits
column_least-total-requires-clause-fits c =
    let r = c.args.reduced.now in
    let j = c.loop-j.j in
    let fl : FitsSigned w128 (number_at c.as_slice-line.result.now j) = search rules in
    let fs : FitsSigned w128 (number_at c.as_slice-square.result.now j) = search rules in
    let short : j < length r.columns = omega (arith, c.loop-j-test.true, ap length c.as_slice-box_sides.ensures, c.requires.long) in
    let inner = column_size-within c.args.sides.now r.columns r.line r.square j c.requires in
    let outer = column_size-le r.columns r.constant r.line r.square j short in
    let most : unsigned_abs (number_at r.line j) * reach (side_at c.args.sides.now j) + unsigned_abs (number_at r.square j) * (reach (side_at c.args.sides.now j) * reach (side_at c.args.sides.now j)) ≤ 2 ^ 125 =
    omega (arith, inner, outer, r.facts.fits) in
    simp to_z-of_z (rw (c.as_slice-line.ensures, c.as_slice-square.ensures, c.as_slice-box_sides.ensures) most)

pub overflow_add-total : goal.overflow_add-total
overflow_add-total c =
    let r = c.args.reduced.now in
    let j = c.loop-j.j in
    let fl : FitsSigned w128 (number_at c.as_slice-line.result.now j) = search rules in
    let fs : FitsSigned w128 (number_at c.as_slice-square.result.now j) = search rules in
    let short : j < length r.columns = omega (arith, c.loop-j-test.true, ap length c.as_slice-box_sides.ensures, c.requires.long) in
    let fp : FitsSigned w128 c.column_least-total.result = search rules in
    let part : c.column_least-total.result ≡ least_part r.line r.square c.args.sides.now j =
    rw (c.as_slice-line.ensures, c.as_slice-square.ensures, c.as_slice-box_sides.ensures) at (simp to_z-of_z at c.column_least-total.ensures) in
    let next = sum_below-next r.constant (to_z w128 c.loop-j.total-bits) c.column_least-total.result j (least_part r.line r.square c.args.sides.now) c.loop-j.invariant part in
    let all = least_fits_upto r.columns r.constant r.line r.square c.args.sides.now (j + 1) c.requires (omega arith) r.facts.fits in
    let both = subst (λ z. FitsSigned w128 z) (sym next) all in
    simp to_z-of_z both

pub loop-j-preserved : goal.loop-j-preserved
loop-j-preserved c =
    let r = c.args.reduced.now in
    let j = c.loop-j.j in
    let fl : FitsSigned w128 (number_at c.as_slice-line.result.now j) = search rules in
    let fs : FitsSigned w128 (number_at c.as_slice-square.result.now j) = search rules in
    let short : j < length r.columns = omega (arith, c.loop-j-test.true, ap length c.as_slice-box_sides.ensures, c.requires.long) in
    let fp : FitsSigned w128 c.column_least-total.result = search rules in
    let part : c.column_least-total.result ≡ least_part r.line r.square c.args.sides.now j =
    rw (c.as_slice-line.ensures, c.as_slice-square.ensures, c.as_slice-box_sides.ensures) at (simp to_z-of_z at c.column_least-total.ensures) in
    let next = sum_below-next r.constant (to_z w128 c.loop-j.total-bits) c.column_least-total.result j (least_part r.line r.square c.args.sides.now) c.loop-j.invariant part in
    let all = least_fits_upto r.columns r.constant r.line r.square c.args.sides.now (j + 1) c.requires (omega arith) r.facts.fits in
    let both = subst (λ z. FitsSigned w128 z) (sym next) all in
    simp to_z-of_z next

pub returns : goal.returns
returns c =
    let r = c.args.reduced.now in
    let end : c.loop-j.j ≡ length r.columns = omega (arith, c.loop-j-test.false, c.loop-j.auto.j-end, ap length c.as_slice-box_sides.ensures, c.requires.long) in
    c.loop-j.invariant ∙ ap (λ n. r.constant +ℤ sum_below n (least_part r.line r.square c.args.sides.now)) end
