use Rattle.boxed_problem.specs.Data.{problem_of}
use Rattle.candidates.specs.Values.{given}
use Rattle.candidates.proofs.Costing.{fix_ended, search_best, search_ended, search_value}
use Rattle.candidates.proofs.pricing.best_under.Goals as goal

pub returns-in-Err-clause-err : goal.returns-in-Err-clause-err
returns-in-Err-clause-err c =
    let run = c.args.run.now in
    fix_ended run (given run c.args.candidate.now) c.args.budget c.args.scenario c.in-Err.fault c.in-Err.ensures.err

pub returns-in-Ok-searched-clause-point : goal.returns-in-Ok-searched-clause-point
returns-in-Ok-searched-clause-point c =
    let run = c.args.run.now in
    search_best run (given run c.args.candidate.now) (problem_of c.in-Ok.problem) c.args.scenario c.in-Ok-searched.best c.in-Ok.ensures.lie c.in-Ok.ensures.ok c.in-Ok-searched.ensures.ok

pub returns-in-Ok-searched-clause-value : goal.returns-in-Ok-searched-clause-value
returns-in-Ok-searched-clause-value c =
    let run = c.args.run.now in
    search_value run (given run c.args.candidate.now) (problem_of c.in-Ok.problem) c.args.scenario c.in-Ok-searched.best c.in-Ok.ensures.ok c.in-Ok-searched.ensures.ok

pub returns-clause-err : goal.returns-clause-err
returns-clause-err c =
    let run = c.args.run.now in
    search_ended run (given run c.args.candidate.now) (problem_of c.in-Ok.problem) c.args.budget c.args.scenario c.in-Err-searched.fault c.in-Ok.ensures.ok c.in-Err-searched.ensures.err
