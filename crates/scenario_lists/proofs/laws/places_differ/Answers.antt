use Rattle.scenario_lists.proofs.Apart.{apart}
use Rattle.scenario_lists.proofs.laws.places_differ.Goals as goal

pub returns : goal.returns
returns c = apart
