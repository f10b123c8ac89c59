use Rattle.std.proofs.Common.{◌≡◌, ◌-◌, length}
use Rattle.row_prices.proofs.ascent.Ascent.ascend_once.Given as goal

abbrev pub invariant-loop-first : goal.invariant-loop-first
invariant-loop-first l = l.self.entries ≡ l.initial.self.entries

abbrev pub decreases-loop-first : goal.decreases-loop-first
decreases-loop-first l = length l.self.entries - l.first
