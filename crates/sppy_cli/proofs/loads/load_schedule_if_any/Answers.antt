use Rattle.sppy_cli.proofs.Loading.{none_of_crew}
use Rattle.sppy_cli.proofs.loads.load_schedule_if_any.Goals as goal

pub returns-in-None-clause-crew : goal.returns-in-None-clause-crew
returns-in-None-clause-crew g c = none_of_crew c.args.run.now.options _ c.new.ensures
