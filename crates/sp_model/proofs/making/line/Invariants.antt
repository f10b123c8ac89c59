use Rattle.std.proofs.Common.{◌≡◌, ◌*ℤ◌, map, take}
use Rattle.sp_model.proofs.making.line.Given as goal

abbrev pub invariant-loop-cost : goal.invariant-loop-cost
invariant-loop-cost l = l.line ≡ map (λ cost. l.factor *ℤ cost) (take l.cost-index l.costs)
