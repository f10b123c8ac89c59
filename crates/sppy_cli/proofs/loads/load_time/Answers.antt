use Rattle.sppy_cli.proofs.SomeColumns.{some_columns}
use Rattle.sppy_cli.proofs.loads.load_time.Goals as goal

pub returns-in-Ok-clause-columns : goal.returns-in-Ok-clause-columns
returns-in-Ok-clause-columns g c =
    some_columns c.args.core.now c.in-Ok.periods c.deref.result.now c.in-Ok.ensures
