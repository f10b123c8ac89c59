use Rattle.scenario_lists.proofs.WeightSums.{sum_of_weights, weight_cons}
use Rattle.scenario_lists.proofs.value_laws.weights_multiply.Goals as goal

pub returns-clause-each : goal.returns-clause-each
returns-clause-each c = weight_cons

pub returns-clause-all : goal.returns-clause-all
returns-clause-all c = sum_of_weights
