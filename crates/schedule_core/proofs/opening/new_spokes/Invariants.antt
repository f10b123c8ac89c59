use Rattle.schedule_core.proofs.NewCrew.{AreEach, IsNewSpoke}
use Rattle.schedule_core.proofs.opening.new_spokes.Given as goal

abbrev pub invariant-loop-number : goal.invariant-loop-number
invariant-loop-number l = AreEach (IsNewSpoke l.run) l.number l.spokes.items
