use Rattle.std.proofs.Common.{◌∙◌, ap}
use Rattle.sppy_cli.specs.Statuses.{read_fault_of}
use Rattle.sppy_cli.proofs.Turns.{join_told}
use Rattle.sppy_cli.proofs.reading.run_of.Goals as goal

pub returns-in-Err-clause-gives : goal.returns-in-Err-clause-gives
returns-in-Err-clause-gives c = (c.in-Err.fault, c.in-Err.ensures, c.status_of.ensures)

pub returns-in-Err-clause-read : goal.returns-in-Err-clause-read
returns-in-Err-clause-read c = ap read_fault_of c.status_of.ensures ∙ join_told c.in-Err.fault
