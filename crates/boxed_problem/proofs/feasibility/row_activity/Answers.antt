use Rattle.std.proofs.Common.{arith, ◌+◌, ◌+ℤ◌, FitsSigned, to_z, rules}
use Rattle.std.proofs.lemmas.Int.{to_z-of_z}
use Rattle.std.specs.Int.{w128}
use Rattle.boxed_problem.specs.BoxedFacts.{no_entry}
use Rattle.boxed_problem.proofs.Magnitudes.{activity_fits, activity_next}
use Rattle.boxed_problem.proofs.feasibility.row_activity.Goals as goal

pub overflow_add-sum : goal.overflow_add-sum
overflow_add-sum c =
    let es = c.args.entries.now in
    let k = c.loop-entry.entry-index in
    let fp : FitsSigned w128 c.entry_activity-sum.result = search rules in
    let next = activity_next es c.args.point.now c.args.row k no_entry (to_z w128 c.loop-entry.sum-bits) c.entry_activity-sum.result c.loop-entry-test.true c.loop-entry.invariant c.entry_activity-sum.ensures in
    simp to_z-of_z (rw next (activity_fits c.args.sides.now es c.args.point.now c.args.row (k + 1) no_entry c.requires.inside c.requires.places c.requires.fits (omega arith)))

pub loop-entry-preserved : goal.loop-entry-preserved
loop-entry-preserved c =
    let es = c.args.entries.now in
    let k = c.loop-entry.entry-index in
    let fp : FitsSigned w128 c.entry_activity-sum.result = search rules in
    let next = activity_next es c.args.point.now c.args.row k no_entry (to_z w128 c.loop-entry.sum-bits) c.entry_activity-sum.result c.loop-entry-test.true c.loop-entry.invariant c.entry_activity-sum.ensures in
    let fits = activity_fits c.args.sides.now es c.args.point.now c.args.row (k + 1) no_entry c.requires.inside c.requires.places c.requires.fits (omega arith) in
    let both : FitsSigned w128 (to_z w128 c.loop-entry.sum-bits +ℤ c.entry_activity-sum.result) = rw next fits in
    simp to_z-of_z next
