use Rattle.std.proofs.Common.{rules, arith, ap, ◌∙◌, ◌+◌, ◌≡◌, ◌<◌, length, to_z, ◌+ℤ◌, FitsSigned}
use Rattle.std.proofs.lemmas.Int.{to_z-of_z}
use Rattle.std.specs.Int.{w128}
use Rattle.boxed_problem.specs.BoxedFacts.{no_entry}
use Rattle.boxed_problem.proofs.Magnitudes.{activity_next}
use Rattle.plan_calls.proofs.ActivityBounds.{core_fits, entry_small}
use Rattle.plan_calls.proofs.activities.core_activity.Goals as goal

pub entry_part-requires : goal.entry_part-requires
entry_part-requires c =
    let run = c.args.run.now in
    let there : c.loop-entry.entry-index < length run.program.entries = omega (arith, c.loop-entry-test.true, ap length c.as_slice-entry-items.ensures) in
    rw c.as_slice-entry-items.ensures (entry_small run c.args.point.now c.args.row c.loop-entry.entry-index c.requires.inside c.requires.row there)

pub plus-sum-requires : goal.plus-sum-requires
plus-sum-requires c =
    let run = c.args.run.now in
    let k = c.loop-entry.entry-index in
    let there : k < length run.program.entries = omega (arith, c.loop-entry-test.true, ap length c.as_slice-entry-items.ensures) in
    let part = rw c.as_slice-entry-items.ensures at c.entry_part.ensures in
    let fp : FitsSigned w128 c.entry_part.result = search rules in
    let next = activity_next run.program.entries c.args.point.now c.args.row k no_entry (to_z w128 c.loop-entry.sum-bits) c.entry_part.result there c.loop-entry.invariant part in
    simp to_z-of_z (rw next (core_fits run c.args.row (k + 1) c.args.point.now c.requires.row c.requires.inside (omega (arith, there))))

pub loop-entry-preserved : goal.loop-entry-preserved
loop-entry-preserved c =
    let run = c.args.run.now in
    let k = c.loop-entry.entry-index in
    let there : k < length run.program.entries = omega (arith, c.loop-entry-test.true, ap length c.as_slice-entry-items.ensures) in
    let part = rw c.as_slice-entry-items.ensures at c.entry_part.ensures in
    let fp : FitsSigned w128 c.entry_part.result = search rules in
    let fs : FitsSigned w128 c.plus-sum.result = search rules in
    let whole : c.plus-sum.result ≡ (to_z w128 c.loop-entry.sum-bits +ℤ c.entry_part.result) = simp to_z-of_z at c.plus-sum.ensures in
    let next = activity_next run.program.entries c.args.point.now c.args.row k no_entry (to_z w128 c.loop-entry.sum-bits) c.entry_part.result there c.loop-entry.invariant part in
    simp to_z-of_z (whole ∙ next)
