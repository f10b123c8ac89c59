use Rattle.propagate.proofs.TightLaws.{row_ready}
use Rattle.propagate.proofs.tightening.side_below.Goals as goal

pub below_limit-requires-clause-ready : goal.below_limit-requires-clause-ready
below_limit-requires-clause-ready c =
    rw (c.as_slice-2.ensures, c.as_slice-3.ensures, c.as_slice-sides.ensures, c.as_slice.ensures) (row_ready c.args.sparse.now c.args.trail.now c.requires.sparse c.args.place c.args.row c.requires.place c.requires.row c.requires.not_missed)
