use Rattle.propagate.proofs.TightLaws.{tightens_self, tightens_trans}
use Rattle.propagate.proofs.tightening.tighten_row.Goals as goal

pub loop-place-init : goal.loop-place-init
loop-place-init c =
    let m = c.args.sparse.now in
    rw c.as_slice-3.ensures (record { tightens = tightens_self m c.args.trail.now; same = c.requires.sparse; row = (m.facts.firsts_are c.args.row c.requires.row).row })

pub returns-then-not-branch-clause-tightens : goal.returns-then-not-branch-clause-tightens
returns-then-not-branch-clause-tightens c = tightens_trans c.args.sparse.now c.args.trail.now c.loop-place.trail c.tighten_entry.new.trail c.loop-place.invariant.tightens c.tighten_entry.ensures.tightens

pub returns-then-is_free-clause-tightens : goal.returns-then-is_free-clause-tightens
returns-then-is_free-clause-tightens c = tightens_self c.args.sparse.now c.args.trail.now
