-- A hedged problem has a point where its scenario has one, so no search of it answers that there is none.

use Rattle.std.proofs.Common.{ap, subst, ◌∙◌, ◌≡◌, ℕ, ◌<◌, List, ℤ, None, Result, Err}
use Rattle.boxed_problem.specs.Data.{Problem}
use Rattle.boxed_problem.specs.Optimum.{IsBest}
use Rattle.boxed_problem.specs.declared.parts.Best.{Best}
use Rattle.branch_bound.specs.Answers.{IsAnswer}
use Rattle.branch_bound.specs.declared.fault.SolveFault.{SolveFault}
use Rattle.branch_bound.specs.declared.fault.SolveFault.TheVariants.{Infeasible}
use Rattle.put_words.specs.Hedged.{hedged_in}
use Rattle.sp_model.specs.Problems.{scenarios}
use Rattle.sp_model.specs.ScenarioPoints.{HavePoints}
use Rattle.sp_model.specs.declared.plan.Multipliers.{Multipliers}
use Rattle.sp_model.specs.declared.run.Run.{Run}

no_hedged : (run : Run) (multipliers : Multipliers) (x : List ℤ) (s : ℕ) → HavePoints run (scenarios run) → s < scenarios run → IsBest (hedged_in run multipliers x s) None → ⊥
unfolding hedged_in
no_hedged run multipliers x s points l none =
    let found = points s l in
    none found.0 (record { inside = found.1.inside; rows = found.1.rows })

pub no_infeasible : (run : Run) (multipliers : Multipliers) (x : List ℤ) (s budget : ℕ) (problem : Problem) (answer : Result Best SolveFault) (fault : SolveFault) → HavePoints run (scenarios run) → s < scenarios run →
    problem ≡ hedged_in run multipliers x s → IsAnswer problem budget answer → answer ≡ Err fault → fault ≡ Infeasible → ⊥
no_infeasible run multipliers x s budget problem answer fault points l e is told kind =
    let answer_is : answer ≡ Err Infeasible = told ∙ ap (λ (f : SolveFault). Err f) kind in
    let found : IsAnswer problem budget (Err Infeasible) = subst (λ (r : Result Best SolveFault). IsAnswer problem budget r) answer_is is in
    no_hedged run multipliers x s points l (subst (λ (p : Problem). IsBest p None) e found.1)
