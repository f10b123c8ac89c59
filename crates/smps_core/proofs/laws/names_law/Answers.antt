use Rattle.smps_core.proofs.GivenNames.{columns_in_order, rows_in_order}
use Rattle.smps_core.proofs.laws.names_law.Goals as goal

pub returns-clause-columns : goal.returns-clause-columns
returns-clause-columns c = columns_in_order

pub returns-clause-rows : goal.returns-clause-rows
returns-clause-rows c = rows_in_order
