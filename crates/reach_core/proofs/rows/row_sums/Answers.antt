use Rattle.std.proofs.Common.{arith, ◌<◌, ap, get_or, length, take}
use Rattle.std.proofs.lemmas.List.{get_or_default}
use Rattle.boxed_problem.specs.BoxedFacts.{no_entry}
use Rattle.reach_core.proofs.Data.{sums_long, sums_next}
use Rattle.reach_core.proofs.rows.row_sums.Goals as goal

pub add-requires-clause-row : goal.add-requires-clause-row
add-requires-clause-row c =
    let k = c.loop-entry.entry-index in
    let lt : k < length c.args.entries.now = omega arith in
    let row = (c.requires k no_entry lt).0 in
    omega (arith, row, ap length c.loop-entry.invariant, sums_long c.args.program.now (take k c.args.entries.now))

pub loop-entry-preserved : goal.loop-entry-preserved
loop-entry-preserved c =
    let k = c.loop-entry.entry-index in
    let es = c.args.entries.now in
    let lt : k < length es = omega arith in
    let e = get_or es k no_entry in
    sums_next c.args.program.now es k e c.loop-entry.sums.items c.add.new.sums.items lt (get_or_default es k no_entry e lt) c.loop-entry.invariant (c.requires k no_entry lt).0 c.add.ensures
