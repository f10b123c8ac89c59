use Rattle.std.proofs.Common.{arith, sym, subst, ◌+◌, ◌<◌, ◌≤◌, length, slice_set, FitsSigned, rules}
use Rattle.std.proofs.lemmas.Int.{to_z-of_z}
use Rattle.std.specs.Int.{w128}
use Rattle.boxed_problem.specs.BoxedFacts.{entry_at}
use Rattle.boxed_problem.specs.Sides.{side_at}
use Rattle.propagate.specs.Ranged.{IsInside, range_at}
use Rattle.propagate.specs.Spans.{place_at}
use Rattle.propagate.proofs.RangingLaws.{at_entry, inside_set, moving_end, moving_next, moving_small, moving_start, product_small}
use Rattle.propagate.proofs.ranging.shift.Goals as goal

pub loop-k-init : goal.loop-k-init
loop-k-init c =
    let m = c.args.sparse.now in
    let border = m.facts.starts_are c.args.column (omega (arith, c.requires.long, c.requires.column)) in
    rw c.as_slice-starts.ensures (record {
      from = omega arith;
      moving = moving_start (length m.rows) m.entries c.args.sides.now c.args.column c.args.side (place_at m.starts c.args.column) c.args.ranges.now border c.requires.ranges;
    })

pub move_range-range-requires-clause-old_fits : goal.move_range-range-requires-clause-old_fits
move_range-range-requires-clause-old_fits c =
    let m = c.args.sparse.now in
    let j = c.args.column in
    let k = c.loop-k.k in
    let test : k < place_at m.starts (j + 1) = rw c.as_slice-starts.ensures at c.loop-k-test.true in
    let at = at_entry m.columns m.rows m.entries m.starts m.firsts m.nexts j k m.facts (omega (arith, c.requires.long, c.requires.column)) c.loop-k.invariant.from test in
    let fv : FitsSigned w128 (entry_at m.entries k).value = search rules in
    let side = subst (λ i. IsInside (side_at c.args.sides.now j) (side_at m.columns i)) (sym at.column) (c.requires.inside j) in
    rw c.as_slice-entries.ensures (simp to_z-of_z (product_small m.columns m.entries k (side_at c.args.sides.now j) at.short side at.fits))

pub move_range-range-requires-clause-new_fits : goal.move_range-range-requires-clause-new_fits
move_range-range-requires-clause-new_fits c =
    let m = c.args.sparse.now in
    let j = c.args.column in
    let k = c.loop-k.k in
    let test : k < place_at m.starts (j + 1) = rw c.as_slice-starts.ensures at c.loop-k-test.true in
    let at = at_entry m.columns m.rows m.entries m.starts m.firsts m.nexts j k m.facts (omega (arith, c.requires.long, c.requires.column)) c.loop-k.invariant.from test in
    let fv : FitsSigned w128 (entry_at m.entries k).value = search rules in
    let side = subst (λ i. IsInside c.args.side (side_at m.columns i)) (sym at.column) c.requires.side in
    rw c.as_slice-entries.ensures (simp to_z-of_z (product_small m.columns m.entries k c.args.side at.short side at.fits))

pub move_range-range-requires-clause-low : goal.move_range-range-requires-clause-low
move_range-range-requires-clause-low c =
    let m = c.args.sparse.now in
    let j = c.args.column in
    let k = c.loop-k.k in
    let test : k < place_at m.starts (j + 1) = rw c.as_slice-starts.ensures at c.loop-k-test.true in
    let at = at_entry m.columns m.rows m.entries m.starts m.firsts m.nexts j k m.facts (omega (arith, c.requires.long, c.requires.column)) c.loop-k.invariant.from test in
    let fv : FitsSigned w128 (entry_at m.entries k).value = search rules in
    let old_inside = c.requires.inside in
    let new_inside = inside_set m.columns c.args.sides.now j c.args.side c.requires.column c.requires.inside c.requires.side in
    let small = moving_small m.columns m.entries c.args.sides.now (slice_set c.args.sides.now j c.args.side) k (entry_at m.entries k).row (range_at c.loop-k.ranges (entry_at m.entries k).row) old_inside new_inside at.fits (c.loop-k.invariant.moving.all (entry_at m.entries k).row at.row) in
    rw (c.as_slice.ensures, c.as_slice-entries.ensures) small.0

pub move_range-range-requires-clause-high : goal.move_range-range-requires-clause-high
move_range-range-requires-clause-high c =
    let m = c.args.sparse.now in
    let j = c.args.column in
    let k = c.loop-k.k in
    let test : k < place_at m.starts (j + 1) = rw c.as_slice-starts.ensures at c.loop-k-test.true in
    let at = at_entry m.columns m.rows m.entries m.starts m.firsts m.nexts j k m.facts (omega (arith, c.requires.long, c.requires.column)) c.loop-k.invariant.from test in
    let fv : FitsSigned w128 (entry_at m.entries k).value = search rules in
    let old_inside = c.requires.inside in
    let new_inside = inside_set m.columns c.args.sides.now j c.args.side c.requires.column c.requires.inside c.requires.side in
    let small = moving_small m.columns m.entries c.args.sides.now (slice_set c.args.sides.now j c.args.side) k (entry_at m.entries k).row (range_at c.loop-k.ranges (entry_at m.entries k).row) old_inside new_inside at.fits (c.loop-k.invariant.moving.all (entry_at m.entries k).row at.row) in
    rw (c.as_slice.ensures, c.as_slice-entries.ensures) small.1

pub set-requires : goal.set-requires
set-requires c =
    let m = c.args.sparse.now in
    let j = c.args.column in
    let k = c.loop-k.k in
    let test : k < place_at m.starts (j + 1) = rw c.as_slice-starts.ensures at c.loop-k-test.true in
    let at = at_entry m.columns m.rows m.entries m.starts m.firsts m.nexts j k m.facts (omega (arith, c.requires.long, c.requires.column)) c.loop-k.invariant.from test in
    let fv : FitsSigned w128 (entry_at m.entries k).value = search rules in
    rw c.as_slice-entries.ensures (omega (arith, at.row, c.loop-k.invariant.moving.long))

pub loop-k-preserved : goal.loop-k-preserved
loop-k-preserved c =
    let m = c.args.sparse.now in
    let j = c.args.column in
    let k = c.loop-k.k in
    let test : k < place_at m.starts (j + 1) = rw c.as_slice-starts.ensures at c.loop-k-test.true in
    let at = at_entry m.columns m.rows m.entries m.starts m.firsts m.nexts j k m.facts (omega (arith, c.requires.long, c.requires.column)) c.loop-k.invariant.from test in
    let fv : FitsSigned w128 (entry_at m.entries k).value = search rules in
    let next = moving_next (length m.rows) m.entries c.args.sides.now j c.args.side k c.loop-k.ranges at.short at.row at.column c.requires.column c.loop-k.invariant.moving in
    let fr : FitsSigned w128 (entry_at c.as_slice-entries.result.now k).value = search rules in
    let new = rw (c.as_slice.ensures, c.as_slice-entries.ensures) at (simp to_z-of_z at c.move_range-range.ensures) in
    let put = rw (c.as_slice-entries.ensures, new) at c.set.ensures.after in
    record { from = omega (arith, c.loop-k.invariant.from); moving = rw put next }

pub returns : goal.returns
returns c =
    let m = c.args.sparse.now in
    let j = c.args.column in
    let to = m.facts.starts_are (j + 1) (omega (arith, c.requires.long, c.requires.column)) in
    let end : place_at c.as_slice-starts.result.now (j + 1) ≤ c.loop-k.k = omega (arith, c.loop-k-test.false) in
    let past : place_at m.starts (j + 1) ≤ c.loop-k.k = rw c.as_slice-starts.ensures at end in
    moving_end (length m.rows) m.entries c.args.sides.now j c.args.side c.loop-k.k (place_at m.starts (j + 1)) c.loop-k.ranges to past c.loop-k.invariant.moving
