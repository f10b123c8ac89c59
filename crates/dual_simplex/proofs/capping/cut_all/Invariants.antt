use Rattle.std.proofs.Common.{ℕ, ◌<◌}
use Rattle.boxed_problem.specs.BoxedFacts.{limits_at}
use Rattle.base_words.specs.Sums.{number_at}
use Rattle.dual_simplex.specs.Capped.{IsCapped, cap_at}
use Rattle.dual_simplex.proofs.capping.cut_all.Given as goal

abbrev pub invariant-loop-i : goal.invariant-loop-i
invariant-loop-i l = (k : ℕ) → k < l.i → IsCapped (limits_at l.rows k) (cap_at l.caps k) (number_at l.prices k)
