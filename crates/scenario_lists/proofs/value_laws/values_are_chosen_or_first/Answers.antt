use Rattle.scenario_lists.proofs.ScenarioValues.{chosen_or_first}
use Rattle.scenario_lists.proofs.value_laws.values_are_chosen_or_first.Goals as goal

pub returns : goal.returns
returns c = chosen_or_first
