use Rattle.std.proofs.lemmas.Result.{err_from_is_err_and}
use Rattle.stoch_lines.specs.Turns.{before_in}
use Rattle.stoch_lines.proofs.Answering.{refused}
use Rattle.stoch_lines.proofs.reading.read_lines.Goals as goal

pub returns-in_err-step : goal.returns-in_err-step
returns-in_err-step c =
    let p = err_from_is_err_and c.from_residual.result c.from_residual.ensures.1 in
    let before = before_in c.loop-line.state in
    rw (p.1, p.2) (refused c.args.core.now c.args.periods.now c.args.bytes.now c.args.lines.now c.loop-line.line-index c.line-item.result before _ _ c.loop-line-test.true c.line-item.is c.loop-line.invariant c.in_err-step.ensures)
