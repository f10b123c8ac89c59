use Rattle.put_read.proofs.Putting.{run_ranks}
use Rattle.put_read.proofs.windows.rank_windows.Goals as goal

pub invariant_of-result : goal.invariant_of-result
invariant_of-result c = record { facts = run_ranks c.args.run.now c.layout_of.result c.layout_of.ensures }
