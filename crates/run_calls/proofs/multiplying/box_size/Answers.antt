use Rattle.std.proofs.Common.{sym, ◌∙◌}
use Rattle.run_calls.proofs.MostBounds.{box_is}
use Rattle.run_calls.proofs.multiplying.box_size.Goals as goal

pub returns : goal.returns
returns c = c.greater_end.ensures ∙ sym (box_is c.args.run.now.program c.args.column c.column_at.result c.requires c.column_at.ensures)
