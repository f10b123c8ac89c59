use Rattle.std.proofs.Common.{◌≡◌, take}
use Rattle.boxed_problem.specs.Sides.{corner}
use Rattle.boxed_problem.proofs.odometer.first_point.Given as goal

abbrev pub invariant-loop-side : goal.invariant-loop-side
invariant-loop-side l = l.point ≡ corner (take l.side-index l.sides)
