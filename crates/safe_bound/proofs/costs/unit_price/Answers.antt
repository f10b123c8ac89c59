use Rattle.std.proofs.Common.{arith, refl, ap, sym, subst, ◌∙◌, rules, ◌≡◌, ◌*ℤ◌, ◌<◌, length, ◌+◌, get_or, take, FitsSigned, to_z}
use Rattle.std.proofs.lemmas.Int.{to_z-of_z}
use Rattle.std.specs.Int.{w128}
use Rattle.boxed_problem.specs.Data.{problem_of}
use Rattle.boxed_problem.specs.BoxedFacts.{no_entry}
use Rattle.base_words.specs.Sums.{number_at}
use Rattle.safe_bound.specs.PriceBound.{entry_price}
use Rattle.base_words.specs.ListSums.{sum_z}
use Rattle.safe_bound.proofs.PriceSizes.{entry_fits, unit_fits_upto}
use Rattle.safe_bound.proofs.RunLaws.{entry_here, price_before, price_upto}
use Rattle.base_words.proofs.SumBounds.{fold_next}
use Rattle.safe_bound.proofs.costs.unit_price.Goals as goal

pub loop-k-init : goal.loop-k-init
loop-k-init c = price_before c.args.prices.now c.args.problem.now.entries c.args.column c.args.first c.args.end c.requires.run

pub overflow_mul-sum : goal.overflow_mul-sum
overflow_mul-sum c =
    let b = problem_of c.args.problem.now in
    let k = c.loop-k.k in
    let e = get_or b.entries k no_entry in
    let d = get_or c.as_slice-entries.result.now k no_entry in
    let short : k < length b.entries = omega (arith, c.loop-k-test.true, c.requires.run.within) in
    let here = entry_here c.args.prices.now c.args.column e (c.requires.run.inside k c.loop-k.auto.k c.loop-k-test.true) in
    let fe = subst (λ z. FitsSigned w128 z) here (entry_fits b c.args.prices.now c.args.column k c.args.problem.now.facts.places c.requires.column c.requires.used c.requires.fits.size short) in
    let fy : FitsSigned w128 (number_at c.as_slice-values.result.now d.row) = search rules in
    let fv : FitsSigned w128 d.value = search rules in
    let product : (number_at c.as_slice-values.result.now d.row *ℤ d.value) ≡ (number_at c.args.prices.now.values e.row *ℤ e.value) = rw (c.as_slice-values.ensures, c.as_slice-entries.ensures) refl in
    let fp = subst (λ z. FitsSigned w128 z) (sym product) fe in
    simp to_z-of_z fp

pub overflow_add-sum : goal.overflow_add-sum
overflow_add-sum c =
    let b = problem_of c.args.problem.now in
    let k = c.loop-k.k in
    let e = get_or b.entries k no_entry in
    let d = get_or c.as_slice-entries.result.now k no_entry in
    let short : k < length b.entries = omega (arith, c.loop-k-test.true, c.requires.run.within) in
    let here = entry_here c.args.prices.now c.args.column e (c.requires.run.inside k c.loop-k.auto.k c.loop-k-test.true) in
    let fe = subst (λ z. FitsSigned w128 z) here (entry_fits b c.args.prices.now c.args.column k c.args.problem.now.facts.places c.requires.column c.requires.used c.requires.fits.size short) in
    let fy : FitsSigned w128 (number_at c.as_slice-values.result.now d.row) = search rules in
    let fv : FitsSigned w128 d.value = search rules in
    let product : (number_at c.as_slice-values.result.now d.row *ℤ d.value) ≡ (number_at c.args.prices.now.values e.row *ℤ e.value) = rw (c.as_slice-values.ensures, c.as_slice-entries.ensures) refl in
    let fp = subst (λ z. FitsSigned w128 z) (sym product) fe in
    let next = fold_next (entry_price c.args.prices.now c.args.column) b.entries k no_entry (to_z w128 c.loop-k.sum-bits) (number_at c.as_slice-values.result.now d.row *ℤ d.value) short c.loop-k.invariant (product ∙ sym here) in
    let all = unit_fits_upto b c.args.prices.now c.args.column (k + 1) c.args.problem.now.facts.places c.requires.column c.requires.used c.requires.fits.size in
    simp to_z-of_z (subst (λ z. FitsSigned w128 z) (sym next) all)

pub loop-k-preserved : goal.loop-k-preserved
loop-k-preserved c =
    let b = problem_of c.args.problem.now in
    let k = c.loop-k.k in
    let e = get_or b.entries k no_entry in
    let d = get_or c.as_slice-entries.result.now k no_entry in
    let short : k < length b.entries = omega (arith, c.loop-k-test.true, c.requires.run.within) in
    let here = entry_here c.args.prices.now c.args.column e (c.requires.run.inside k c.loop-k.auto.k c.loop-k-test.true) in
    let fe = subst (λ z. FitsSigned w128 z) here (entry_fits b c.args.prices.now c.args.column k c.args.problem.now.facts.places c.requires.column c.requires.used c.requires.fits.size short) in
    let fy : FitsSigned w128 (number_at c.as_slice-values.result.now d.row) = search rules in
    let fv : FitsSigned w128 d.value = search rules in
    let product : (number_at c.as_slice-values.result.now d.row *ℤ d.value) ≡ (number_at c.args.prices.now.values e.row *ℤ e.value) = rw (c.as_slice-values.ensures, c.as_slice-entries.ensures) refl in
    let fp = subst (λ z. FitsSigned w128 z) (sym product) fe in
    let next = fold_next (entry_price c.args.prices.now c.args.column) b.entries k no_entry (to_z w128 c.loop-k.sum-bits) (number_at c.as_slice-values.result.now d.row *ℤ d.value) short c.loop-k.invariant (product ∙ sym here) in
    let all = unit_fits_upto b c.args.prices.now c.args.column (k + 1) c.args.problem.now.facts.places c.requires.column c.requires.used c.requires.fits.size in
    let both = subst (λ z. FitsSigned w128 z) (sym next) all in
    simp to_z-of_z next

pub returns : goal.returns
returns c =
    let r = c.requires.run in
    let stop : c.loop-k.k ≡ c.args.end = omega (arith, c.loop-k-test.false, c.loop-k.auto.k-end r.order) in
    c.loop-k.invariant
    ∙ (ap (λ k. sum_z (entry_price c.args.prices.now c.args.column) (take k c.args.problem.now.entries)) stop
    ∙ price_upto (problem_of c.args.problem.now) c.args.prices.now c.args.column c.args.first c.args.end r)
