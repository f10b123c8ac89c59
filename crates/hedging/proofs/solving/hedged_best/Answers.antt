use Rattle.boxed_problem.specs.Data.{problem_of}
use Rattle.hedging.proofs.Solvable.{no_infeasible}
use Rattle.hedging.proofs.solving.hedged_best.Goals as goal

pub hedged-requires-clause-ready : goal.hedged-requires-clause-ready
hedged-requires-clause-ready c = record {
  long = c.requires.long;
  sized = c.requires.sized;
  inside = c.requires.inside;
  pulled = c.requires.pulls;
}

pub unreachable-requires : goal.unreachable-requires
unreachable-requires c =
    let run = c.args.run.now in
    let put = c.args.put.now in
    no_infeasible run put.multipliers put.x c.args.scenario run.options.budget (problem_of c.in-Ok.problem) c.solve.result c.in-Err-Infeasible.field-0 c.requires.point c.requires.scenario c.in-Ok.ensures c.solve.ensures c.in-Err-Infeasible.is c.in-Err-Infeasible.field-0-is
