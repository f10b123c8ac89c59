use Rattle.std.proofs.Common.{subst, sym, List, ◌≤◌}
use Rattle.std.specs.List.{All}
use Rattle.smps_words.specs.CoreFacts.{max_rows}
use Rattle.core_lines.specs.States.{before_in}
use Rattle.core_lines.specs.declared.cells.Cell.{Cell}
use Rattle.smps_core.specs.Entries.{AreApart}
use Rattle.smps_core.proofs.Facts.{placed_few}
use Rattle.smps_core.proofs.joining.lists_of.Goals as goal

pub entries_of-requires-clause-apart : goal.entries_of-requires-clause-apart
entries_of-requires-clause-apart c = subst AreApart (sym c.as_slice.ensures) c.args.state.now.columns.facts.apart

pub entries_of-requires-clause-placed : goal.entries_of-requires-clause-placed
entries_of-requires-clause-placed c = subst (λ (cells : List Cell). All (λ (cell : Cell). cell.row ≤ max_rows) cells) (sym c.as_slice.ensures) (placed_few (before_in c.args.state.now) c.args.state.now.rows.few c.requires)
