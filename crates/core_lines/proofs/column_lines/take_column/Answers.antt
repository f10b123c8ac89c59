use Rattle.core_lines.specs.States.{rows_in}
use Rattle.core_lines.proofs.column_lines.take_column.Goals as goal

pub returns-then-is_marker : goal.returns-then-is_marker
returns-then-is_marker c = record { taken = c.take_marker.ensures (rows_in c.args.rows.now) }
