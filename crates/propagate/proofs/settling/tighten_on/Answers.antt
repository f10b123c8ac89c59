use Rattle.boxed_problem.specs.Data.{problem_of}
use Rattle.propagate.proofs.TightLaws.{empty_none, tightens_holds}
use Rattle.propagate.proofs.settling.tighten_on.Goals as goal

pub returns-clause-none : goal.returns-clause-none
returns-clause-none c =
    let b = problem_of c.args.problem.now in
    let m = c.args.sparse.now in
    let old = c.args.trail.now in
    let new = c.visit_waiting-result.new.trail in
    empty_none b m old.sides new.sides c.visit_waiting-result.result c.requires.problem (tightens_holds b m old new c.requires.problem c.visit_waiting-result.ensures.tightens) c.visit_waiting-result.ensures.empty
