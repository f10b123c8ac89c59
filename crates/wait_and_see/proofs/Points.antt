-- Which scenarios have feasible points, by their least values.
use Rattle.std.proofs.Common.{arith, ◌≡◌, ℕ, zero, suc, ◌+◌, ◌<◌, ◌≤◌, ◌⊎◌, inl, inr, ℤ, ◌+ℤ◌, Option, Some, None, Err, refl, sym, subst}
use Rattle.std.proofs.lemmas.Bool.{cases_lt}
use Rattle.std.specs.Option.{option_and_then, option_map}
use Rattle.boxed_problem.specs.Data.{Problem}
use Rattle.branch_bound.specs.PlainSearch.{ref_count}
use Rattle.sp_model.specs.Problems.{least_of, problem_in, scenarios, sum_some, wait_and_see_of}
use Rattle.sp_model.specs.ScenarioPoints.{HasPoint, HavePoints}
use Rattle.sp_model.specs.declared.run.Run.{Run}
use Rattle.sp_model.proofs.Duality.{none_feasible}
use Rattle.sp_model.proofs.LeastValues.{least_point}
use Rattle.sp_model.proofs.ScenarioPoints.{first_infeasible, run_filled}
use Rattle.wait_and_see.specs.Solving.{SolvesIn}
use Rattle.wait_and_see.specs.Spending.{IsSpentIn}
use Rattle.wait_and_see.specs.WaitAnswers.{AllHavePoints, WaitAnswers}
use Rattle.wait_and_see.specs.declared.fault.WaitFault.{WaitFault}
use Rattle.wait_and_see.specs.declared.fault.WaitFault.TheVariants.{Infeasible, Spent, Memory}

-- the least value of scenario t
abbrev pub least_in : Run → ℕ → Option ℤ
least_in run t = least_of (problem_in run t)

-- a scenario with a least value has a point
pub point_of : (run : Run) (s : ℕ) (value : ℤ) → least_in run s ≡ Some value → HasPoint run s
point_of run s value has = least_point (problem_in run s) value (run_filled run) has

-- where there is a sum of least values, each scenario of it has a point
summed_have_points : (run : Run) (n : ℕ) (sum : ℤ) → sum_some n (least_in run) ≡ Some sum → (s : ℕ) → s < n → HasPoint run s
summed_have_points run zero sum e s less = absurd (omega arith)
summed_have_points run (suc n) sum e s less = by_sum (sum_some n (least_in run)) (least_in run n) (λ before f. summed_have_points run n before f s) refl refl e
  where
    by_place : (value : ℤ) → (s < n → HasPoint run s) → least_in run n ≡ Some value → (s < n) ⊎ (n ≤ s) → HasPoint run s
    by_place value earlier has (inl under) = earlier under
    by_place value earlier has (inr over) = let same : n ≡ s = omega arith in subst (HasPoint run) same (point_of run n value has)

    by_sum : (before last : Option ℤ) → ((value : ℤ) → sum_some n (least_in run) ≡ Some value → s < n → HasPoint run s) → sum_some n (least_in run) ≡ before → least_in run n ≡ last →
        option_and_then (λ so_far. option_map (λ next. so_far +ℤ next) last) before ≡ Some sum → HasPoint run s
    by_sum None last earlier f g h = absurd (let x = h in cc)
    by_sum (Some before) None earlier f g h = absurd (let x = h in cc)
    by_sum (Some before) (Some value) earlier f g h = by_place value (earlier before f) g (cases_lt s n)

-- where there is a wait-and-see bound, each scenario has a point
pub bounded_have_points : (run : Run) (bound : ℤ) → wait_and_see_of run ≡ Some bound → AllHavePoints run
unfolding wait_and_see_of
bounded_have_points run bound e s l = summed_have_points run (scenarios run) bound e s l

-- a scenario whose budget is used up, where each earlier one has a point
pub spent_at : (run : Run) (problems : ℕ → Problem) (budget s scenario opened : ℕ) → s < scenarios run → HavePoints run s → scenario ≡ s → opened ≡ budget → budget < ref_count (problems s) → IsSpentIn run problems budget scenario opened
spent_at run problems budget s scenario opened there before same all more =
    subst (λ t. IsSpentIn run problems budget t opened) (sym same) (record { there = there; before = before; opened_is = all; more = more })

-- a scenario that isn't solved ends the sum
pub ended_at : (run : Run) (s : ℕ) (fault : WaitFault) → s < scenarios run → HavePoints run s → SolvesIn run s (Err fault) → WaitAnswers run (Err fault)
ended_at run s (Infeasible scenario) there before (same, none) = first_infeasible run s scenario there before same (none_feasible (problem_in run s) (run_filled run) none)
ended_at run s (Spent scenario opened) there before (same, all, more) = spent_at run (problem_in run) run.options.budget s scenario opened there before same all more
ended_at run s Memory there before free = tt
