use Rattle.std.proofs.Common.{◌≡◌, pos, map, take}
use Rattle.sp_model.proofs.making.square.Given as goal

abbrev pub invariant-loop-cost : goal.invariant-loop-cost
invariant-loop-cost l = l.square ≡ map (λ cost. pos 0) (take l._cost-index l.costs)
