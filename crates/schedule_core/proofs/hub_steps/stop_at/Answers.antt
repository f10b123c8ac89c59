use Rattle.schedule_core.proofs.Calling.{stops_at}
use Rattle.schedule_core.proofs.hub_steps.stop_at.Goals as goal

pub returns : goal.returns
returns c = stops_at c.args.board.now c.select.new.self c.select.ensures c.stop.new.self c.args.last c.stop.ensures.leaves c.stop.ensures.view
