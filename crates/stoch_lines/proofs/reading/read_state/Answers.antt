use Rattle.std.proofs.Common.{Ok, ap, sym, ◌∙◌}
use Rattle.stoch_lines.proofs.Answering.{lines_give}
use Rattle.stoch_lines.proofs.reading.read_state.Goals as goal

pub returns : goal.returns
returns c =
    lines_give c.args.core.now c.args.periods.now c.args.bytes.now c.as_slice.result.now c.read_lines.result
    (c.in-Ok.ensures.exact ∙ ap Ok (sym c.as_slice.ensures)) c.read_lines.ensures
