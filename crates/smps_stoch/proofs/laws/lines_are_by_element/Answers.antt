use Rattle.smps_stoch.proofs.ByElement.{by_element}
use Rattle.smps_stoch.proofs.ByName.{by_name}
use Rattle.smps_stoch.proofs.laws.lines_are_by_element.Goals as goal

pub returns-clause-elements : goal.returns-clause-elements
returns-clause-elements c = by_element

pub returns-clause-blocks : goal.returns-clause-blocks
returns-clause-blocks c = by_name
