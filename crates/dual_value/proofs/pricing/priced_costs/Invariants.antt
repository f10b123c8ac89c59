use Rattle.std.proofs.Common.{◌≡◌, map}
use Rattle.std.specs.List.{range_with_len}
use Rattle.dual_value.specs.Duals.{priced_at}
use Rattle.dual_value.proofs.pricing.priced_costs.Given as goal

abbrev pub invariant-loop-column : goal.invariant-loop-column
invariant-loop-column l = l.line ≡ map (priced_at l.run l.multipliers l.scenario) (range_with_len 0 l.column)
