use Rattle.smps_core.proofs.Sorting.{sorted_entries}
use Rattle.smps_core.proofs.entries.entries_of.Goals as goal

pub returns : goal.returns
returns c = sorted_entries c.args.cells.now c.in_ok-entries.entries c.sorted.result c.in_ok-entries.ensures c.requires.apart c.requires.placed c.sorted.ensures.same c.sorted.ensures.rise
