use Rattle.std.proofs.Common.{subst, ℤ, ◌≤ℤ◌}
use Rattle.sp_model.proofs.Duality.{dual_below}
use Rattle.sp_model.proofs.laws.weak_duality.Goals as goal

pub returns-clause-plans : goal.returns-clause-plans
returns-clause-plans c = dual_below

pub returns-clause-optimum : goal.returns-clause-optimum
returns-clause-optimum c = λ run multipliers bound cost balanced e optimum. let P : ℤ → Type 0 = λ v. bound ≤ℤ v in subst P optimum.1.cost_is (dual_below run multipliers bound optimum.0 balanced e optimum.1.plan_is)
