use Rattle.propagate.proofs.TightLaws.{ready_stays}
use Rattle.propagate.proofs.rows.tighten_place.Goals as goal

pub above_limit-side-requires-clause-ready : goal.above_limit-side-requires-clause-ready
above_limit-side-requires-clause-ready c =
    let b = c.args.problem.now in
    rw (c.as_slice-rows.ensures, c.as_slice-entries.ensures, c.as_slice-2.ensures) (ready_stays b.rows b.entries c.args.sides.now c.set_side-first.new.sides c.args.place c.args.range c.set_side-first.ensures.within c.requires.ready)
