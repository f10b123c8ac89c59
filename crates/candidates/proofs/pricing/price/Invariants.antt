use Rattle.std.proofs.Common.{◌≡◌, length}
use Rattle.base_words.specs.Sums.{sum_below}
use Rattle.candidates.specs.Values.{given}
use Rattle.candidates.proofs.Costing.{BestBefore, value_in}
use Rattle.candidates.proofs.pricing.price.Given as goal

abbrev pub invariant-loop-scenario : goal.invariant-loop-scenario
invariant-loop-scenario l = record {
  long : length l.points ≡ l.scenario;
  best : BestBefore l.run (given l.run l.candidate) l.scenario l.points;
  sum : l.sum ≡ sum_below l.scenario (value_in l.run l.points);
}
