use Rattle.std.proofs.Common.{arith, ◌*◌, ◌^◌, ◌≤◌}
use Rattle.std.proofs.Math.Nat.{mul-le-mul}
use Rattle.hub_cylinder.proofs.starting.product.Goals as goal

pub returns-clause-small : goal.returns-clause-small
returns-clause-small c = let l : c.args.a * c.args.b ≤ 2 ^ 20 * 2 ^ 20 = mul-le-mul c.requires.first c.requires.second in omega (arith, l)
