use Rattle.sp_model.proofs.PlaceValues.{given, kept}
use Rattle.sp_model.proofs.value_laws.scenario_values.Goals as goal

pub returns-clause-given : goal.returns-clause-given
returns-clause-given c = given

pub returns-clause-kept : goal.returns-clause-kept
returns-clause-kept c = kept
