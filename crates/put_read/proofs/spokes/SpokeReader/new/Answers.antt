use Rattle.put_read.proofs.SpokeReading.{new_reads}
use Rattle.put_read.proofs.spokes.SpokeReader.new.Goals as goal

pub returns-clause-reads : goal.returns-clause-reads
returns-clause-reads c = λ run v is. new_reads run v c.args.window c.new.result c.new.ensures.fresh c.new.ensures.reads is
