use Rattle.scenario_lists.proofs.Marks.{IsMark}
use Rattle.scenario_lists.proofs.marking.mark.Given as goal

abbrev pub invariant-loop-k : goal.invariant-loop-k
invariant-loop-k l = IsMark l.elements l.choices l.stage l.k l.mark
