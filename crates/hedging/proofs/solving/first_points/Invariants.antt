use Rattle.std.proofs.Common.{◌≡◌, Some}
use Rattle.put_words.specs.Puts.{bests_below}
use Rattle.sp_model.specs.Problems.{least_of, problem_in, sum_some}
use Rattle.hedging.proofs.solving.first_points.Given as goal

abbrev pub invariant-loop-scenario : goal.invariant-loop-scenario
invariant-loop-scenario l = record {
  points : bests_below l.scenario (problem_in l.run) ≡ Some l.points;
  sum : sum_some l.scenario (λ s. least_of (problem_in l.run s)) ≡ Some l.bound;
}
