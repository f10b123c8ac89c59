use Rattle.std.proofs.lemmas.Result.{err_from_is_err_and}
use Rattle.smps_time.proofs.Answering.{refused}
use Rattle.smps_time.proofs.time_file.read_lines.Goals as goal

pub returns-in_err-step-clause-reads : goal.returns-in_err-step-clause-reads
returns-in_err-step-clause-reads c =
    let p = err_from_is_err_and c.from_residual.result c.from_residual.ensures.1 in
    rw (p.1, p.2) (refused _ _ _ _ _ _ _ c.loop-line-test.true c.line-item.is c.loop-line.invariant.rest c.in_err-step.ensures.steps)
