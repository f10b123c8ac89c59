use Rattle.std.proofs.Common.{◌≡◌}
use Rattle.dual_simplex.proofs.simplex.Simplex.run.Given as goal

abbrev pub invariant-loop : goal.invariant-loop
invariant-loop l = l.self.problem.value ≡ l.initial.self.problem.value
