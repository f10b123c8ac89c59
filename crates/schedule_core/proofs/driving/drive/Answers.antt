use Rattle.schedule_core.proofs.BoundsFit.{lower_fits, upper_fits}
use Rattle.schedule_core.proofs.driving.drive.Goals as goal

pub returns-in-Ok-driven-clause-lower : goal.returns-in-Ok-driven-clause-lower
returns-in-Ok-driven-clause-lower c = lower_fits c.args.run.now c.in-Ok-driven.log c.in-Ok-driven.ensures.run

pub returns-in-Ok-driven-clause-upper : goal.returns-in-Ok-driven-clause-upper
returns-in-Ok-driven-clause-upper c = upper_fits c.args.run.now c.in-Ok-driven.log c.puts_are_there.ensures c.in-Ok-driven.ensures.run
