use Rattle.scenario_lists.proofs.Nesting.{last_marks_differ, marks_long, marks_nested}
use Rattle.scenario_lists.proofs.laws.marks_branch.Goals as goal

pub returns-clause-nested : goal.returns-clause-nested
returns-clause-nested c = marks_nested

pub returns-clause-apart : goal.returns-clause-apart
returns-clause-apart c = last_marks_differ

pub returns-clause-long : goal.returns-clause-long
returns-clause-long c = marks_long
