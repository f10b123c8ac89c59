use Rattle.std.proofs.Common.{ℕ, ◌+◌, ◌<◌}
use Rattle.boxed_problem.specs.BoxedFacts.{ComesBefore, entry_at}
use Rattle.boxed_problem.proofs.building.are_ascending.Given as goal

abbrev pub invariant-loop-next : goal.invariant-loop-next
invariant-loop-next l = (k : ℕ) → k + 1 < l.next → ComesBefore (entry_at l.entries k) (entry_at l.entries (k + 1))
