use Rattle.hedging.proofs.Filling.{moves_gained, sized_table}
use Rattle.hedging.proofs.Makings.{next_is}
use Rattle.hedging.proofs.tables.move_on.Goals as goal

pub add_all-requires-clause-table : goal.add_all-requires-clause-table
add_all-requires-clause-table c = sized_table c.args.run.now c.args.multipliers.now c.requires.long c.requires.sized

pub returns : goal.returns
returns c = next_is c.args.run.now c.args.multipliers.now c.args.x.now c.add_all.new.cells (moves_gained c.args.run.now c.args.multipliers.now c.args.x.now c.add_all.new.cells c.requires.long c.add_all.ensures)
