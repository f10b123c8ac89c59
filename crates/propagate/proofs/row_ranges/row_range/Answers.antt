use Rattle.std.proofs.Common.{◌+◌, ◌+ℤ◌, FitsSigned, to_z, rules}
use Rattle.std.proofs.lemmas.Int.{to_z-of_z}
use Rattle.std.specs.Int.{w128}
use Rattle.boxed_problem.specs.BoxedFacts.{entry_size, no_entry}
use Rattle.propagate.specs.Ranges.{high_part, low_part}
use Rattle.base_words.proofs.SumBounds.{fold_fits, fold_next}
use Rattle.propagate.proofs.RangeLaws.{high_part-size, low_part-size}
use Rattle.propagate.proofs.row_ranges.row_range.Goals as goal

pub overflow_add-low : goal.overflow_add-low
overflow_add-low c =
    let es = c.args.entries.now in
    let box = c.args.sides.now in
    let i = c.args.row in
    let k = c.loop-entry.entry-index in
    let fp : FitsSigned w128 c.entry_range-part.result.low = search rules in
    let next = fold_next (low_part box i) es k no_entry (to_z w128 c.loop-entry.low-bits) c.entry_range-part.result.low c.loop-entry-test.true c.loop-entry.invariant.low c.entry_range-part.ensures.low in
    simp to_z-of_z (rw next (fold_fits (low_part box i) (entry_size box i) (λ e. low_part-size box i e) es (k + 1) c.requires.fits))

pub overflow_add-high : goal.overflow_add-high
overflow_add-high c =
    let es = c.args.entries.now in
    let box = c.args.sides.now in
    let i = c.args.row in
    let k = c.loop-entry.entry-index in
    let fp : FitsSigned w128 c.entry_range-part.result.high = search rules in
    let next = fold_next (high_part box i) es k no_entry (to_z w128 c.loop-entry.high-bits) c.entry_range-part.result.high c.loop-entry-test.true c.loop-entry.invariant.high c.entry_range-part.ensures.high in
    simp to_z-of_z (rw next (fold_fits (high_part box i) (entry_size box i) (λ e. high_part-size box i e) es (k + 1) c.requires.fits))

pub loop-entry-preserved : goal.loop-entry-preserved
loop-entry-preserved c =
    let es = c.args.entries.now in
    let box = c.args.sides.now in
    let i = c.args.row in
    let k = c.loop-entry.entry-index in
    let fl : FitsSigned w128 c.entry_range-part.result.low = search rules in
    let fh : FitsSigned w128 c.entry_range-part.result.high = search rules in
    let low = fold_next (low_part box i) es k no_entry (to_z w128 c.loop-entry.low-bits) c.entry_range-part.result.low c.loop-entry-test.true c.loop-entry.invariant.low c.entry_range-part.ensures.low in
    let high = fold_next (high_part box i) es k no_entry (to_z w128 c.loop-entry.high-bits) c.entry_range-part.result.high c.loop-entry-test.true c.loop-entry.invariant.high c.entry_range-part.ensures.high in
    let low_fits : FitsSigned w128 (to_z w128 c.loop-entry.low-bits +ℤ c.entry_range-part.result.low) = rw low (fold_fits (low_part box i) (entry_size box i) (λ e. low_part-size box i e) es (k + 1) c.requires.fits) in
    let high_fits : FitsSigned w128 (to_z w128 c.loop-entry.high-bits +ℤ c.entry_range-part.result.high) = rw high (fold_fits (high_part box i) (entry_size box i) (λ e. high_part-size box i e) es (k + 1) c.requires.fits) in
    record { low = simp to_z-of_z low; high = simp to_z-of_z high }
