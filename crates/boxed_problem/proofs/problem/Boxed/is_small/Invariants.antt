use Rattle.std.proofs.Common.{◌≡◌, ◌+◌, ◌*◌, ◌^◌, ◌≤◌, unsigned_abs}
use Rattle.boxed_problem.specs.Data.{problem_of}
use Rattle.boxed_problem.specs.BoxedFacts.{value_size}
use Rattle.boxed_problem.specs.PriceFit.{price_part}
use Rattle.base_words.specs.Sums.{size_below}
use Rattle.boxed_problem.proofs.problem.Boxed.is_small.Given as goal

abbrev pub invariant-loop-i : goal.invariant-loop-i
invariant-loop-i l = record {
  sum : l.sum ≡ unsigned_abs l.prices.scale * value_size l.self.columns l.self.constant l.self.line l.self.square + size_below l.i (price_part (problem_of l.self) l.prices);
  within : l.sum ≤ 2 ^ 125;
}
