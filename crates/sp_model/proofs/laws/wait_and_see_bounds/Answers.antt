use Rattle.std.proofs.Common.{subst, ℤ, ◌≤ℤ◌}
use Rattle.sp_model.proofs.Duality.{no_plan, wait_and_see_below}
use Rattle.sp_model.proofs.laws.wait_and_see_bounds.Goals as goal

pub returns-clause-plans : goal.returns-clause-plans
returns-clause-plans c = wait_and_see_below

pub returns-clause-optimum : goal.returns-clause-optimum
returns-clause-optimum c = λ run bound cost e optimum. let P : ℤ → Type 0 = λ v. bound ≤ℤ v in subst P optimum.1.cost_is (wait_and_see_below run bound optimum.0 e optimum.1.plan_is)

pub returns-clause-none : goal.returns-clause-none
returns-clause-none c = no_plan
