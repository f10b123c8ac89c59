-- The best points under values on which nodes agree are a plan, whose cost is the price; one point
-- more, and searches that end without one.

use Rattle.std.proofs.Common.{arith, refl, sym, ap, subst, ◌∙◌, ◌≡◌, ℕ, zero, suc, add-one, ◌+◌, ◌*◌, ◌<◌, ◌≤◌, nat_lt, Bool, true, false, List, [], ◌∷◌, ◌++◌, length, get_or, ℤ, ◌+ℤ◌, ◌≤ℤ◌, unsigned_abs, FitsSigned, Option, Some, None}
use Rattle.std.proofs.lemmas.Int.{ints}
use Rattle.std.proofs.lemmas.List.{get_or_append_left, get_or_push}
use Rattle.std.proofs.Math.Nat.{mul_comm}
use Rattle.std.specs.Int.{w128}
use Rattle.std.specs.Option.{option_and_then, option_map}
use Rattle.base_words.specs.Sums.{number_at, size_below, sum_below}
use Rattle.base_words.proofs.ListSumsByNumber.{sum_below-same}
use Rattle.base_words.proofs.Magnitudes.{fits_from_abs}
use Rattle.base_words.proofs.NumberTests.{less_from_test, not_less_from_test}
use Rattle.base_words.proofs.SumBounds.{size_below-times, sum_below-abs}
use Rattle.boxed_problem.specs.Data.{Problem}
use Rattle.boxed_problem.specs.Objective.{value_of}
use Rattle.boxed_problem.specs.Optimum.{IsBest}
use Rattle.boxed_problem.specs.declared.parts.Best.{Best}
use Rattle.boxed_problem.proofs.Magnitudes.{objective_abs}
use Rattle.branch_bound.specs.PlainSearch.{ref_count}
use Rattle.log_words.specs.Candidates.{fixed_in, price_of}
use Rattle.sp_model.specs.Plans.{AreNonanticipative, IsOptimum, IsPlan, cost_of, point_of, stage_of}
use Rattle.sp_model.specs.Problems.{factor_of, least_of, problem_in, scenarios, sum_some}
use Rattle.sp_model.specs.declared.plan.Plan.{Plan}
use Rattle.sp_model.specs.declared.run.Run.{Run}
use Rattle.sp_model.proofs.CostSpans.{cost_span, plain_span}
use Rattle.sp_model.proofs.LeastSums.{line_room}
use Rattle.sp_model.proofs.SumSome.{sum_more}
use Rattle.tree_core.specs.Nodes.{Share}
use Rattle.agreement.specs.Agreeing.{AreAgreed}
use Rattle.agreement.proofs.LateStages.{late_stage, leaf_alone, other_there, shares_there}
use Rattle.candidates.specs.Values.{given}
use Rattle.candidates.specs.declared.candidate.Candidate.{Candidate}
use Rattle.candidates.specs.Fixing.{FixFails, LieBelow, SearchFails}
use Rattle.candidates.specs.Under.{AreBestUnder, UnderFails, HavePointsUnder, IsBestUnder, IsFirstWithout, PriceFails}
use Rattle.candidates.specs.declared.fault.PriceFault.{PriceFault}
use Rattle.candidates.specs.declared.fault.PriceFault.TheVariants.{NoPoint, Spent, Memory}
use Rattle.candidates.proofs.Fixed.{best_under, best_value, fixed_same, none_least, none_under, under_least}

-- a sum of terms that are all there
sum_there : (n : ℕ) (f : ℕ → Option ℤ) (g : ℕ → ℤ) → ((k : ℕ) → k < n → f k ≡ Some (g k)) → sum_some n f ≡ Some (sum_below n g)
sum_there zero f g h = refl
sum_there (suc n) f g h =
    ap (λ k. sum_some k f) (sym (add-one n)) ∙ sum_more f n (sum_below n g) (g n) (sum_there n f g (λ k l. h k (omega arith))) (h n (omega arith))

-- a sum with one term more
abbrev plus_last : Option ℤ → Option ℤ → Option ℤ
plus_last front last = option_and_then (λ sum. option_map (λ least. sum +ℤ least) last) front

no_last : (front : Option ℤ) → plus_last front None ≡ None
no_last None = refl
no_last (Some sum) = refl

-- a sum one of whose terms is none
sum_missing : (n : ℕ) (f : ℕ → Option ℤ) (k : ℕ) → k < n → f k ≡ None → sum_some n f ≡ None
sum_missing zero f k l e = absurd (omega arith)
sum_missing (suc n) f k l e = by_place (nat_lt k n) refl (λ m. sum_missing n f k m e)
  where
    by_place : (b : Bool) → nat_lt k n ≡ b → (k < n → sum_some n f ≡ None) → sum_some (suc n) f ≡ None
    by_place true p front = ap (λ s. plus_last s (f n)) (front (less_from_test k n p))
    by_place false p front =
        let over = not_less_from_test k n p in
        let same : n ≡ k = omega arith in
        ap (λ t. plus_last (sum_some n f) t) (ap f same ∙ e) ∙ no_last (sum_some n f)

-- two sums of the same terms
sum_same : (n : ℕ) (f g : ℕ → Option ℤ) → ((k : ℕ) → k < n → f k ≡ g k) → sum_some n f ≡ sum_some n g
sum_same zero f g h = refl
sum_same (suc n) f g h =
    ap (λ s. plus_last s (f n)) (sum_same n f g (λ k l. h k (omega arith))) ∙ ap (plus_last (sum_some n g)) (h n (omega arith))

sum_order : (n : ℕ) (f g : ℕ → ℤ) → ((k : ℕ) → k < n → f k ≤ℤ g k) → sum_below n f ≤ℤ sum_below n g
sum_order zero f g h = omega (arith, ints)
sum_order (suc n) f g h = omega (arith, ints, h n (omega arith), sum_order n f g (λ k l. h k (omega arith)))

-- scenarios that share a node have the same values in all columns
same_values : (run : Run) (candidate : Candidate) (plan : Plan) → AreAgreed run candidate.values → AreBestUnder run (given run candidate) plan → AreNonanticipative run plan
same_values run candidate plan agreed best s u j l share = by_column (nat_lt j run.nonleaf) refl
  where
    by_column : (t : Bool) → nat_lt j run.nonleaf ≡ t → number_at (point_of plan s) j ≡ number_at (point_of plan u) j
    by_column true e =
        let h = less_from_test j run.nonleaf e in
        let first = shares_there run s u (stage_of run j) share in
        let second = other_there run s u (stage_of run j) share in
        (best.each s first).under.early j h ∙ agreed s u j h share ∙ sym ((best.each u second).under.early j h)
    by_column false e =
        let late = late_stage run j (not_less_from_test j run.nonleaf e) l in
        ap (λ k. number_at (point_of plan k) j) (leaf_alone run s u (subst (λ t. Share run.program.tree.nodes s u t) late share))

pub best_plan : (run : Run) (candidate : Candidate) (plan : Plan) → AreAgreed run candidate.values → AreBestUnder run (given run candidate) plan → IsPlan run plan
best_plan run candidate plan agreed best = record {
  long = best.long;
  feasible = λ s l. (best.each s l).under.feasible;
  same = same_values run candidate plan agreed best;
}

pub best_price : (run : Run) (values : ℕ → ℕ → ℤ) (plan : Plan) → AreBestUnder run values plan → price_of run values ≡ Some (cost_of run plan)
unfolding price_of
best_price run values plan best =
    sum_there (scenarios run) (λ s. least_of (fixed_in run values s)) (λ s. value_of (problem_in run s) (point_of plan s)) (λ s l. under_least run values s (point_of plan s) (best.each s l))

pub best_least : (run : Run) (values : ℕ → ℕ → ℤ) (plan other : Plan) → AreBestUnder run values plan → IsPlan run other → ((s j : ℕ) → s < scenarios run → j < run.nonleaf → number_at (point_of other s) j ≡ values s j) → cost_of run plan ≤ℤ cost_of run other
best_least run values plan other best is has =
    sum_order (scenarios run) (λ s. value_of (problem_in run s) (point_of plan s)) (λ s. value_of (problem_in run s) (point_of other s))
    (λ s l. (best.each s l).least (point_of other s) (record { feasible = is.feasible s l; early = λ j h. has s j l h }))

pub best_above : (run : Run) (candidate : Candidate) (plan : Plan) (least : ℤ) → AreAgreed run candidate.values → AreBestUnder run (given run candidate) plan → IsOptimum run (Some least) → least ≤ℤ cost_of run plan
best_above run candidate plan least agreed best (optimal, is) = is.least plan (best_plan run candidate plan agreed best)

pub price_none : (run : Run) (values : ℕ → ℕ → ℤ) (s : ℕ) → LieBelow run values s run.nonleaf → IsFirstWithout run values s → price_of run values ≡ None
unfolding price_of
price_none run values s lie first =
    sum_missing (scenarios run) (λ k. least_of (fixed_in run values k)) s first.there (none_least run values s lie first.none)

pub price_same : (run : Run) (values others : ℕ → ℕ → ℤ) → ((s j : ℕ) → s < scenarios run → j < run.nonleaf → values s j ≡ others s j) → price_of run values ≡ price_of run others
unfolding price_of
price_same run values others same =
    sum_same (scenarios run) (λ s. least_of (fixed_in run values s)) (λ s. least_of (fixed_in run others s)) (λ s l. ap least_of (fixed_same run values others s (λ j h. same s j l h)))

-- the value of the point of scenario s in a list
abbrev pub value_in : Run → List (List ℤ) → ℕ → ℤ
value_in run points s = value_of (problem_in run s) (get_or points s [])

-- the points of the first scenarios
abbrev pub BestBefore : Run → (ℕ → ℕ → ℤ) → ℕ → List (List ℤ) → Type 0
BestBefore run values n points = (s : ℕ) → s < n → IsBestUnder run values s (get_or points s [])

-- one point more
pub point_next : (run : Run) (values : ℕ → ℕ → ℤ) (k : ℕ) (front points : List (List ℤ)) (x : List ℤ) → length front ≡ k → points ≡ front ++ x ∷ [] → BestBefore run values k front → IsBestUnder run values k x → BestBefore run values (k + 1) points
point_next run values k front points x long pushed before own s l = subst (λ (xs : List (List ℤ)). IsBestUnder run values s (get_or xs s [])) (sym pushed) (by_place (nat_lt s k) refl)
  where
    by_place : (t : Bool) → nat_lt s k ≡ t → IsBestUnder run values s (get_or (front ++ x ∷ []) s [])
    by_place true e =
        let h = less_from_test s k e in
        subst (IsBestUnder run values s) (sym (get_or_append_left front (x ∷ []) [] s (omega (arith, h, long)))) (before s h)
    by_place false e =
        let over = not_less_from_test s k e in
        let same : k ≡ s = omega arith in
        subst (IsBestUnder run values s) (sym (get_or_push front x [] s (long ∙ same))) (subst (λ n. IsBestUnder run values n x) same own)

pub sum_next : (run : Run) (k : ℕ) (front points : List (List ℤ)) (x : List ℤ) (sum v : ℤ) → length front ≡ k → points ≡ front ++ x ∷ [] → sum ≡ sum_below k (value_in run front) → v ≡ value_of (problem_in run k) x → (sum +ℤ v) ≡ sum_below (k + 1) (value_in run points)
sum_next run k front points x sum v long pushed e d =
    let before : sum_below k (value_in run front) ≡ sum_below k (value_in run points) = sum_below-same k (value_in run front) (value_in run points) (λ s l. ap (value_of (problem_in run s)) (sym (ap (λ (xs : List (List ℤ)). get_or xs s []) pushed ∙ get_or_append_left front (x ∷ []) [] s (omega (arith, l, long))))) in
    let own : value_of (problem_in run k) x ≡ value_in run points k = ap (value_of (problem_in run k)) (sym (ap (λ (xs : List (List ℤ)). get_or xs k []) pushed ∙ get_or_push front x [] k long)) in
    let next : sum_below (k + 1) (value_in run points) ≡ (sum_below k (value_in run points) +ℤ value_in run points k) = ap (λ n. sum_below n (value_in run points)) (add-one k) in
    omega (arith, ints, before, own, next, e, d)

-- the values of the first scenarios together
pub sum_fits : (run : Run) (values : ℕ → ℕ → ℤ) (k : ℕ) (points : List (List ℤ)) → BestBefore run values k points → k ≤ scenarios run → FitsSigned w128 (sum_below k (value_in run points))
sum_fits run values k points before h =
    let span = cost_span run.program in
    let factor : ℕ → ℕ = λ s. unsigned_abs (factor_of run s) in
    let each = sum_below-abs k (value_in run points) (λ s. span * factor s) (λ s l. omega (arith, objective_abs (problem_in run s) (get_or points s []) (before s l).under.feasible.inside, plain_span run s (omega (arith, l, h)), mul_comm span (factor s))) in
    fits_from_abs (sum_below k (value_in run points)) (omega (arith, each, size_below-times k span factor, line_room run k h, mul_comm span (size_below k factor)))

-- each scenario before has a point under the candidate
pub have_points : (run : Run) (values : ℕ → ℕ → ℤ) (n : ℕ) (points : List (List ℤ)) → BestBefore run values n points → HavePointsUnder run values n
have_points run values n points before s l = (get_or points s [], (before s l).under)

-- a scenario without a point ends the price
pub ended_at : (run : Run) (values : ℕ → ℕ → ℤ) (budget s : ℕ) (fault : PriceFault) → s < scenarios run → HavePointsUnder run values s → UnderFails run values budget s fault → PriceFails run values budget fault
ended_at run values budget s (NoPoint scenario) there before (same, none) = subst (IsFirstWithout run values) (sym same) (record { there = there; none = none; before = before })
ended_at run values budget s (Spent scenario opened) there before (same, all, more) = subst (λ t. PriceFails run values budget (Spent t opened)) (sym same) (record { there = there; before = before; opened_is = all; more = more })
ended_at run values budget s Memory there before free = tt

-- a problem that isn't fixed
pub fix_ended : (run : Run) (values : ℕ → ℕ → ℤ) (budget s : ℕ) (fault : PriceFault) → FixFails run values s fault → UnderFails run values budget s fault
fix_ended run values budget s (NoPoint scenario) h = h
fix_ended run values budget s (Spent scenario opened) h = absurd h
fix_ended run values budget s Memory h = tt

-- a search without an answer
pub search_ended : (run : Run) (values : ℕ → ℕ → ℤ) (problem : Problem) (budget s : ℕ) (fault : PriceFault) → problem ≡ fixed_in run values s → SearchFails problem budget s fault → UnderFails run values budget s fault
search_ended run values problem budget s (NoPoint scenario) e (same, none) = (same, none_under run values s (subst (λ p. IsBest p None) e none))
search_ended run values problem budget s (Spent scenario opened) e (same, all, more) = (same, all, subst (λ p. budget < ref_count p) e more)
search_ended run values problem budget s Memory e h = tt

-- the answer of a search
pub search_best : (run : Run) (values : ℕ → ℕ → ℤ) (problem : Problem) (s : ℕ) (best : Best) → LieBelow run values s run.nonleaf → problem ≡ fixed_in run values s → IsBest problem (Some best) → IsBestUnder run values s best.point
search_best run values problem s best lie e is = best_under run values s best lie (subst (λ p. IsBest p (Some best)) e is)

pub search_value : (run : Run) (values : ℕ → ℕ → ℤ) (problem : Problem) (s : ℕ) (best : Best) → problem ≡ fixed_in run values s → IsBest problem (Some best) → best.value ≡ value_of (problem_in run s) best.point
search_value run values problem s best e is = best_value run values s best (subst (λ p. IsBest p (Some best)) e is)

abbrev plan_with : List (List ℤ) → Plan
plan_with points = record { points = points }

-- the points of all scenarios
pub all_best : (run : Run) (values : ℕ → ℕ → ℤ) (n : ℕ) (points : List (List ℤ)) → n ≡ scenarios run → length points ≡ n → BestBefore run values n points → AreBestUnder run values (plan_with points)
all_best run values n points all long before = record { long = long ∙ all; each = λ s l. before s (omega (arith, l, all)) }
