use Rattle.std.proofs.Common.{◌∙◌, ap}
use Rattle.put_read.proofs.Putting.{new_reads}
use Rattle.put_read.specs.Reads.{fresh_in}
use Rattle.put_read.proofs.reader.PutReader.new.Goals as goal

pub new-requires : goal.new-requires
new-requires c = c.rank_windows-windows.result.facts.some

pub returns-clause-fresh : goal.returns-clause-fresh
returns-clause-fresh c = c.in_ok-reader.ensures.fresh ∙ ap fresh_in c.rank_windows-windows.ensures

pub returns-clause-reads : goal.returns-clause-reads
returns-clause-reads c = new_reads c.args.run.now c.rank_windows-windows.result.layout c.in_ok-reader.reader c.in_ok-put.put c.rank_windows-windows.ensures c.in_ok-put.ensures c.in_ok-reader.ensures.fresh c.in_ok-reader.ensures.reads
