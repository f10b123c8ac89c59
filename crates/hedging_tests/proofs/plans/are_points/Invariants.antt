use Rattle.std.proofs.Common.{◌≡◌, ℕ, ◌<◌, length}
use Rattle.sp_model.specs.Plans.{point_of}
use Rattle.hedging_tests.proofs.plans.are_points.Given as goal

abbrev pub invariant-loop-s : goal.invariant-loop-s
invariant-loop-s l = (t : ℕ) → t < l.s → length (point_of l.plan t) ≡ length l.run.program.columns
