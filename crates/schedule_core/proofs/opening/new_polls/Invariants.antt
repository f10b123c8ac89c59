use Rattle.schedule_core.proofs.NewCrew.{AreEach, IsNewPoll}
use Rattle.schedule_core.proofs.opening.new_polls.Given as goal

abbrev pub invariant-loop-number : goal.invariant-loop-number
invariant-loop-number l = AreEach (IsNewPoll l.run) l.number l.polls.items
