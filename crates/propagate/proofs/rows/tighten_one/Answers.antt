use Rattle.std.proofs.Common.{arith, sym, ◌∙◌, ◌≡◌, ◌<◌, ◌≤◌, ◌^◌, false, length}
use Rattle.std.specs.List.{sum_by}
use Rattle.boxed_problem.specs.BoxedFacts.{entry_size}
use Rattle.boxed_problem.proofs.Narrower.{entries_within}
use Rattle.boxed_problem.specs.BoxedFacts.{entry_at, limits_at}
use Rattle.propagate.specs.Ranges.{high_activity, low_activity, misses}
use Rattle.boxed_problem.proofs.Lying.{within_trans}
use Rattle.propagate.proofs.TightLaws.{list_ready, ready_stays}
use Rattle.propagate.proofs.rows.tighten_one.Goals as goal

pub row_range-range-requires-clause-fits : goal.row_range-range-requires-clause-fits
row_range-range-requires-clause-fits c =
    let b = c.args.problem.now in
    let i = c.args.row in
    let fit = b.facts.rows_fit i c.requires.row in
    let most : sum_by (entry_size c.args.sides.now i) b.entries ≤ 2 ^ 122 = omega (arith, fit, entries_within c.args.sides.now b.columns i b.entries c.requires.within) in
    rw (c.as_slice-2.ensures, c.as_slice-3.ensures) most

pub tighten_place-requires-clause-within : goal.tighten_place-requires-clause-within
tighten_place-requires-clause-within c = within_trans c.loop-place.sides c.args.sides.now c.args.problem.now.columns c.loop-place.invariant.within c.requires.within

pub tighten_place-requires-clause-ready : goal.tighten_place-requires-clause-ready
tighten_place-requires-clause-ready c =
    let p = c.args.problem.now in
    let old = c.args.sides.now in
    let k = c.loop-place.place in
    let i = c.args.row in
    let range = c.row_range-range.result in
    let low : range.low ≡ low_activity p.entries old i = rw (c.as_slice-3.ensures, c.as_slice-2.ensures) at c.row_range-range.ensures.low in
    let high : range.high ≡ high_activity p.entries old i = rw (c.as_slice-3.ensures, c.as_slice-2.ensures) at c.row_range-range.ensures.high in
    let answer : c.is_missed.result ≡ misses (limits_at p.rows i) range.low range.high = rw c.as_slice.ensures at c.is_missed.ensures in
    let not_missed : misses (limits_at p.rows i) range.low range.high ≡ false = sym answer ∙ c.if-is_missed.false in
    let at : (entry_at p.entries k).row ≡ i = rw c.as_slice-in-loop-place.ensures at c.if-as_slice-place.true in
    let short : k < length p.entries = omega (arith, c.loop-place-test.true, c.len-place-end.ensures) in
    let ready = list_ready p old k i range c.requires.within short at low high not_missed in
    ready_stays p.rows p.entries old c.loop-place.sides k range c.loop-place.invariant.within ready
