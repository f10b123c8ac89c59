use Rattle.hedging.proofs.Filling.{pulls_gained, zeros_table}
use Rattle.hedging.proofs.tables.pulls.Goals as goal

pub add_all-requires-clause-table : goal.add_all-requires-clause-table
add_all-requires-clause-table c = zeros_table c.args.run.now c.in_ok-cells.cells c.in_ok-cells.ensures

pub returns : goal.returns
returns c = pulls_gained c.args.run.now c.args.x.now c.in_ok-cells.cells c.add_all.new.cells c.in_ok-cells.ensures c.add_all.ensures
