use Rattle.std.proofs.Common.{arith, ap, sym, subst, ◌∙◌, ◌≡◌, ◌<◌, length, ◌+◌, FitsSigned, to_z, rules}
use Rattle.std.proofs.lemmas.Int.{ints, to_z-of_z}
use Rattle.std.specs.Int.{w128}
use Rattle.boxed_problem.specs.Data.{problem_of}
use Rattle.boxed_problem.specs.Sides.{side_at}
use Rattle.base_words.specs.Sums.{sum_below}
use Rattle.safe_bound.specs.Leasts.{least_on}
use Rattle.safe_bound.specs.PriceBound.{reduced_least}
use Rattle.safe_bound.specs.Reducing.{reduced_constant}
use Rattle.base_words.proofs.SumBounds.{sum_below-next}
use Rattle.safe_bound.proofs.PriceSizes.{kept_fits, kept_least, total_fits_upto}
use Rattle.safe_bound.proofs.RunLaws.{run_is, run_next}
use Rattle.safe_bound.proofs.bounding.price_total.Goals as goal

pub kept_cost-cost-requires-clause-run : goal.kept_cost-cost-requires-clause-run
kept_cost-cost-requires-clause-run c =
    run_is c.args.problem.now.entries c.loop-j.j c.loop-j.first c.run_end-end.result c.args.problem.now.facts.ascending c.loop-j.invariant.first (rw c.as_slice-entries.ensures at c.run_end-end.ensures)

pub column_least-total-requires-clause-fits : goal.column_least-total-requires-clause-fits
column_least-total-requires-clause-fits c =
    let b = problem_of c.args.problem.now in
    let y = c.args.prices.now in
    let places = c.args.problem.now.facts.places in
    let j = c.loop-j.j in
    let short : j < length b.columns = omega (arith, c.loop-j-test.true, ap length c.as_slice-box_sides.ensures, c.requires.sides.long) in
    let fl : FitsSigned w128 c.kept_cost-cost.result.line = search rules in
    let fs : FitsSigned w128 c.kept_cost-cost.result.square = search rules in
    let most = kept_fits b y c.args.sides.now j places c.requires.sides short c.requires.prices.size in
    simp to_z-of_z (rw (c.kept_cost-cost.ensures.line, c.kept_cost-cost.ensures.square, c.as_slice-box_sides.ensures) most)

pub overflow_add-total : goal.overflow_add-total
overflow_add-total c =
    let b = problem_of c.args.problem.now in
    let y = c.args.prices.now in
    let places = c.args.problem.now.facts.places in
    let j = c.loop-j.j in
    let short : j < length b.columns = omega (arith, c.loop-j-test.true, ap length c.as_slice-box_sides.ensures, c.requires.sides.long) in
    let fl : FitsSigned w128 c.kept_cost-cost.result.line = search rules in
    let fs : FitsSigned w128 c.kept_cost-cost.result.square = search rules in
    let fp : FitsSigned w128 c.column_least-total.result = search rules in
    let raw : c.column_least-total.result ≡ least_on c.kept_cost-cost.result.line c.kept_cost-cost.result.square (side_at c.as_slice-box_sides.result.now j) = simp to_z-of_z at c.column_least-total.ensures in
    let part = rw (c.kept_cost-cost.ensures.line, c.kept_cost-cost.ensures.square, c.as_slice-box_sides.ensures) at raw ∙ kept_least b y c.args.sides.now j c.requires.sides in
    let next = sum_below-next (reduced_constant b y) (to_z w128 c.loop-j.total-bits) c.column_least-total.result j (reduced_least b y c.args.sides.now) c.loop-j.invariant.total part in
    let all = total_fits_upto b y c.args.sides.now (j + 1) places c.requires.sides (omega (arith, short)) c.requires.prices.size in
    let both = subst (λ z. FitsSigned w128 z) (sym next) all in
    simp to_z-of_z both

pub loop-j-preserved : goal.loop-j-preserved
loop-j-preserved c =
    let b = problem_of c.args.problem.now in
    let y = c.args.prices.now in
    let places = c.args.problem.now.facts.places in
    let j = c.loop-j.j in
    let short : j < length b.columns = omega (arith, c.loop-j-test.true, ap length c.as_slice-box_sides.ensures, c.requires.sides.long) in
    let fl : FitsSigned w128 c.kept_cost-cost.result.line = search rules in
    let fs : FitsSigned w128 c.kept_cost-cost.result.square = search rules in
    let fp : FitsSigned w128 c.column_least-total.result = search rules in
    let raw : c.column_least-total.result ≡ least_on c.kept_cost-cost.result.line c.kept_cost-cost.result.square (side_at c.as_slice-box_sides.result.now j) = simp to_z-of_z at c.column_least-total.ensures in
    let part = rw (c.kept_cost-cost.ensures.line, c.kept_cost-cost.ensures.square, c.as_slice-box_sides.ensures) at raw ∙ kept_least b y c.args.sides.now j c.requires.sides in
    let next = sum_below-next (reduced_constant b y) (to_z w128 c.loop-j.total-bits) c.column_least-total.result j (reduced_least b y c.args.sides.now) c.loop-j.invariant.total part in
    let all = total_fits_upto b y c.args.sides.now (j + 1) places c.requires.sides (omega (arith, short)) c.requires.prices.size in
    let both = subst (λ z. FitsSigned w128 z) (sym next) all in
    let run = run_is b.entries j c.loop-j.first c.run_end-end.result c.args.problem.now.facts.ascending c.loop-j.invariant.first (rw c.as_slice-entries.ensures at c.run_end-end.ensures) in
    record { total = simp to_z-of_z next; first = run_next b.entries j c.loop-j.first c.run_end-end.result run }

pub returns : goal.returns
returns c =
    let b = problem_of c.args.problem.now in
    let f = reduced_least b c.args.prices.now c.args.sides.now in
    let end : c.loop-j.j ≡ length b.columns = omega (arith, c.loop-j-test.false, c.loop-j.auto.j-end, ap length c.as_slice-box_sides.ensures, c.requires.sides.long) in
    omega (arith, ints, c.loop-j.invariant.total, ap (λ n. sum_below n f) end)
