use Rattle.scenario_lists.specs.Combinations.{choices_of}
use Rattle.scenario_lists.proofs.Agreement.{marks_agree}
use Rattle.scenario_lists.proofs.Digits.{are_choices}
use Rattle.scenario_lists.proofs.laws.marks_of_agreeing.Goals as goal

pub returns : goal.returns
returns c es t s u s_lt u_lt = marks_agree es (choices_of es s) (choices_of es u) t (are_choices es s s_lt) (are_choices es u u_lt)
