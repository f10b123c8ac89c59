use Rattle.std.proofs.Common.{◌≡◌, take}
use Rattle.safe_bound.specs.PriceBound.{entry_price}
use Rattle.base_words.specs.ListSums.{sum_z}
use Rattle.safe_bound.proofs.costs.unit_price.Given as goal

abbrev pub invariant-loop-k : goal.invariant-loop-k
invariant-loop-k l = l.sum ≡ sum_z (entry_price l.prices l.column) (take l.k l.problem.entries)
