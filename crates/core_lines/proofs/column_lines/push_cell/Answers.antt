use Rattle.core_lines.proofs.CellLaws.{cell_added}
use Rattle.core_lines.proofs.column_lines.push_cell.Goals as goal

pub invariant_of-columns : goal.invariant_of-columns
invariant_of-columns c = record { facts = cell_added c.args.columns.now.names c.args.columns.now.cells c.push.new.self c.args.columns.now.marks c.set.new.self c.args.cell c.args.columns.now.facts c.requires.last c.requires.fresh c.requires.short c.requires.place c.in-Ok.ensures.ok c.set.ensures.after }
