use Rattle.boxed_problem.specs.Data.{problem_of}
use Rattle.propagate.proofs.TightLaws.{holds_trans, missed_none}
use Rattle.propagate.proofs.rows.tighten.Goals as goal

pub returns-in-Err-clause-none : goal.returns-in-Err-clause-none
returns-in-Err-clause-none c =
    let b = problem_of c.args.problem.now in
    let old = c.args.sides.now in
    let new = c.tighten_all.new.sides in
    missed_none b old new c.in-Err.empty.row (holds_trans b old c.loop.sides new c.loop.invariant c.tighten_all.ensures.holds) c.in-Err.ensures.empty
