use Rattle.std.proofs.Common.{◌≡◌}
use Rattle.boxed_problem.specs.Data.{problem_of}
use Rattle.branch_bound.specs.Bettering.{IsPriced}
use Rattle.branch_bound.specs.Frames.{IsStack}
use Rattle.branch_bound.specs.Narrowing.{IsFound}
use Rattle.branch_bound.proofs.first_values.first_value.Given as goal

abbrev pub invariant-loop : goal.invariant-loop
invariant-loop l = record {
  stack : IsStack (problem_of l.problem) l.best l.trail l.frames;
  same : l.sparse ≡ l.trail.sparse.value;
  pricing : IsPriced (problem_of l.problem) l.pricing;
  found : IsFound (problem_of l.problem) l.best;
}
