use Rattle.std.proofs.Common.{◌∙◌, Ok, ap, sym}
use Rattle.core_lines.proofs.Readings.{lines_give}
use Rattle.core_lines.proofs.reading.read_state.Goals as goal

pub returns-in-Ok : goal.returns-in-Ok
returns-in-Ok c = lines_give c.args.bytes.now c.as_slice.result.now c.read_lines.result (c.in-Ok.ensures.exact ∙ ap Ok (sym c.as_slice.ensures)) c.read_lines.ensures
