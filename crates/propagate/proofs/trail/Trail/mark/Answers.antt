use Rattle.propagate.proofs.Backing.{mark_is}
use Rattle.propagate.proofs.trail.Trail.mark.Goals as goal

pub returns-clause-remembers : goal.returns-clause-remembers
returns-clause-remembers c =
    let old = c.args.self.now in
    rw c.len-number.ensures (mark_is old.changes old.sides old.marks c.push.new.self c.len.result c.in_ok-push.ensures.ok c.len.ensures)
