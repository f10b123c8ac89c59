use Rattle.scenario_lists.proofs.ScenarioValues.{own_or_parents}
use Rattle.scenario_lists.proofs.value_laws.values_are_own_or_parents.Goals as goal

pub returns : goal.returns
returns c = own_or_parents
