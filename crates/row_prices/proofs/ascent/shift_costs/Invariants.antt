use Rattle.std.proofs.Common.{◌≡◌, length}
use Rattle.row_prices.proofs.ascent.shift_costs.Given as goal

abbrev pub invariant-loop-k : goal.invariant-loop-k
invariant-loop-k l = length l.line ≡ length l.initial.line
