use Rattle.std.proofs.Common.{◌≡◌, take}
use Rattle.std.specs.List.{sum_by}
use Rattle.boxed_problem.specs.Data.{problem_of}
use Rattle.safe_bound.specs.PriceWeights.{weight}
use Rattle.row_prices.proofs.fitting.entries_weight.Given as goal

abbrev pub invariant-loop-entry : goal.invariant-loop-entry
invariant-loop-entry l = l.sum ≡ sum_by (weight (problem_of l.problem) l.prices) (take l.entry-index l.problem.entries)
