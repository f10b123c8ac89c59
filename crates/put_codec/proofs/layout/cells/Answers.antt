use Rattle.put_codec.proofs.Places.{starts_rise}
use Rattle.put_codec.proofs.layout.cells.Goals as goal

pub overflow_sub-result : goal.overflow_sub-result
overflow_sub-result c = starts_rise c.args.layout.now c.args.rank c.start-2.result c.start.result c.requires c.start-2.ensures.value c.start.ensures.value
