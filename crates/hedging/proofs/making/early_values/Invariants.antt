use Rattle.std.proofs.Common.{◌≡◌, take}
use Rattle.std.specs.List.{flat_map}
use Rattle.hedging.proofs.making.early_values.Given as goal

abbrev pub invariant-loop-point : goal.invariant-loop-point
invariant-loop-point l = l.values.items ≡ flat_map (λ point. take l.run.nonleaf point) (take l.point-index l.points)
