-- Where each scenario has a point, there is a dual value.
use Rattle.std.proofs.Common.{refl, ◌≡◌, ℤ, Option, Some, None}
use Rattle.sp_model.specs.Plans.{dual_of, multiplier_of, with_prices}
use Rattle.sp_model.specs.Problems.{least_of, problem_in, scenarios}
use Rattle.sp_model.specs.ScenarioPoints.{HavePoints}
use Rattle.sp_model.specs.declared.plan.Multipliers.{Multipliers}
use Rattle.sp_model.specs.declared.run.Run.{Run}
use Rattle.sp_model.proofs.Duality.{none_feasible}
use Rattle.sp_model.proofs.ScenarioPoints.{run_filled}
use Rattle.sp_model.proofs.SumSome.{sum_some-none}

not_none : (run : Run) (multipliers : Multipliers) → HavePoints run (scenarios run) → dual_of run multipliers ≡ None → ⊥
unfolding dual_of
not_none run multipliers points e =
    let found = sum_some-none (scenarios run) (λ s. least_of (with_prices (problem_in run s) (multiplier_of run multipliers s))) e in
    let has = points found.0 found.1 in
    none_feasible (with_prices (problem_in run found.0) (multiplier_of run multipliers found.0)) (run_filled run) found.2 has.0 (record { inside = has.1.inside; rows = has.1.rows })

pub dual_there : (run : Run) (multipliers : Multipliers) → HavePoints run (scenarios run) → (value : ℤ) × (dual_of run multipliers ≡ Some value)
dual_there run multipliers points = by_dual (dual_of run multipliers) refl
  where
    by_dual : (o : Option ℤ) → dual_of run multipliers ≡ o → (value : ℤ) × (dual_of run multipliers ≡ Some value)
    by_dual None e = absurd (not_none run multipliers points e)
    by_dual (Some value) e = (value, e)
