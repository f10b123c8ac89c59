use Rattle.run_log.proofs.SpokeLogs.{leaves_best, leaves_log}
use Rattle.run_log.proofs.laws.spokes_leave_logs.Goals as goal

pub returns-clause-log : goal.returns-clause-log
returns-clause-log c = leaves_log

pub returns-clause-best : goal.returns-clause-best
returns-clause-best c = leaves_best
