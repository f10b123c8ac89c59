use Rattle.window_tests.proofs.Phasing.{stays}
use Rattle.window_tests.proofs.stops.asked.Goals as goal

pub returns : goal.returns
returns c = stays c.args.board.now c.select.new.self c.stopped.new.self _ c.select.ensures _ _ c.stopped.ensures.leaves.1
