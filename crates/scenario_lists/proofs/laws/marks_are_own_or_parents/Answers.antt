use Rattle.scenario_lists.proofs.OwnMarks.{own_mark, parents_mark}
use Rattle.scenario_lists.proofs.laws.marks_are_own_or_parents.Goals as goal

pub returns-clause-own : goal.returns-clause-own
returns-clause-own c = own_mark

pub returns-clause-parents : goal.returns-clause-parents
returns-clause-parents c = parents_mark
