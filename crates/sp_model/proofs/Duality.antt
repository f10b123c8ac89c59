-- Least values of scenarios, with and without multipliers as prices, are at most the values of a plan's points; balanced multipliers add nothing to the cost of a plan.

use Rattle.std.proofs.Common.{arith, refl, sym, ap, ◌∙◌, ◌≡◌, ℕ, ◌+◌, ◌*◌, ◌<◌, ◌==◌, nat_lt, Bool, true, false, cond, List, [], ◌∷◌, length, get_or, ℤ, pos, ◌+ℤ◌, ◌*ℤ◌, ◌≤ℤ◌, Option, Some, None, if◌then◌else◌}
use Rattle.std.proofs.lemmas.Int.{ints}
use Rattle.std.proofs.lemmas.List.{get_or_default, length-map}
use Rattle.std.proofs.lemmas.List.Elements.{All-append, All-nil, Contains-get_or, recursion_from_All}
use Rattle.std.proofs.lemmas.List.FromFn.{get_or-map-range_with_len}
use Rattle.std.specs.List.{All, AllByRecursion, count_by, flat_map, range_with_len}
use Rattle.std.specs.Option.{option_map}
use Rattle.base_words.specs.ListSums.{sum_z}
use Rattle.base_words.specs.Sums.{number_at, sum_below}
use Rattle.base_words.proofs.ListSums.{sum_z-append, sum_z-same, sum_z-swap, sum_z-times}
use Rattle.base_words.proofs.ListSumsByNumber.{sum_below-add, sum_below-same, sum_below-zero, sum_below_is, sum_below_once}
use Rattle.base_words.proofs.Products.{sum_times, zero_times}
use Rattle.std.proofs.Math.IntN.{*ℤ_comm, *ℤ-zero}
use Rattle.boxed_problem.specs.Data.{Problem}
use Rattle.boxed_problem.specs.Objective.{curve, value_of, value_part}
use Rattle.boxed_problem.specs.Optimum.{Feasible, IsBest, best_of}
use Rattle.boxed_problem.specs.Sides.{Filled}
use Rattle.boxed_problem.specs.declared.parts.Best.{Best}
use Rattle.boxed_problem.proofs.Optimal.{best_is}
use Rattle.tree_core.specs.Nodes.{members, nodes_of}
use Rattle.tree_core.specs.declared.tree.Node.{Node}
use Rattle.sp_model.specs.Plans.{AreBalanced, IsPlan, cost_of, dual_of, multiplier_of, no_column, point_of, stage_of, with_prices}
use Rattle.sp_model.specs.Problems.{least_of, problem_in, scenarios, wait_and_see_of}
use Rattle.sp_model.specs.Changes.{side_of, sides}
use Rattle.sp_model.specs.declared.plan.Multipliers.{Multipliers}
use Rattle.sp_model.specs.declared.plan.Plan.{Plan}
use Rattle.sp_model.specs.declared.run.Run.{Run}
use Rattle.sp_model.proofs.ScenarioPoints.{run_filled}
use Rattle.sp_model.proofs.SumSome.{sum_some-le, sum_some-none}
use Rattle.base_words.proofs.NumberTests.{less_from_test}

-- the least value of a problem is at most the value of a feasible point
least_below : (problem : Problem) → Filled problem.columns → (v : ℤ) (x : List ℤ) → least_of problem ≡ Some v → Feasible problem x → v ≤ℤ value_of problem x
least_below problem filled v x e feasible = by_best (best_of problem) (best_is problem (best_of problem) filled refl) e
  where
    by_best : (o : Option Best) → IsBest problem o → option_map (λ (best : Best). best.value) o ≡ Some v → v ≤ℤ value_of problem x
    by_best None h d = absurd (let y = d in cc)
    by_best (Some best) h d =
        let same : best.value ≡ v = cc in
        let least = h.least x feasible in
        omega (arith, ints)

-- where there is no least value, no point is feasible
pub none_feasible : (problem : Problem) → Filled problem.columns → least_of problem ≡ None → (x : List ℤ) → Feasible problem x → ⊥
none_feasible problem filled e x feasible = by_best (best_of problem) (best_is problem (best_of problem) filled refl) e
  where
    by_best : (o : Option Best) → IsBest problem o → option_map (λ (best : Best). best.value) o ≡ None → ⊥
    by_best None h d = h x feasible
    by_best (Some best) h d = let y = d in cc

pub wait_and_see_below : (run : Run) (bound : ℤ) (plan : Plan) → wait_and_see_of run ≡ Some bound → IsPlan run plan → bound ≤ℤ cost_of run plan
unfolding wait_and_see_of
wait_and_see_below run bound plan e is =
    sum_some-le (scenarios run) (λ s. least_of (problem_in run s)) (λ s. value_of (problem_in run s) (point_of plan s)) bound e
    (λ s v l d. least_below (problem_in run s) (run_filled run) v (point_of plan s) d (is.feasible s l))

pub no_plan : (run : Run) → wait_and_see_of run ≡ None → (plan : Plan) → IsPlan run plan → ⊥
unfolding wait_and_see_of
no_plan run e plan is =
    let found = sum_some-none (scenarios run) (λ s. least_of (problem_in run s)) e in
    none_feasible (problem_in run found.0) (run_filled run) found.2 (point_of plan found.0) (is.feasible found.0 found.1)

-- with prices a value is raised by the sum of the prices times the values
priced_value : (p : Problem) (prices : ℕ → ℤ) (x : List ℤ) → value_of (with_prices p prices) x ≡ value_of p x +ℤ sum_below (length p.columns) (λ j. prices j *ℤ number_at x j)
priced_value p prices x =
    let n = length p.columns in
    let part : ℕ → ℤ = λ j. value_part p.line p.square x j +ℤ (prices j *ℤ number_at x j) in
    let same = sum_below-same n (value_part (with_prices p prices).line p.square x) part (λ j l.
    let at : number_at (with_prices p prices).line j ≡ number_at p.line j +ℤ prices j = get_or-map-range_with_len (λ k. number_at p.line k +ℤ prices k) 0 n j j (pos 0) l (omega arith) in
    let whole : curve (number_at (with_prices p prices).line j) (number_at p.square j) (number_at x j) ≡ curve (number_at p.line j +ℤ prices j) (number_at p.square j) (number_at x j) = ap (λ a. curve a (number_at p.square j) (number_at x j)) at in
    omega (arith, ints, whole, sum_times (number_at p.line j) (prices j) (number_at x j))) in
    let added = sum_below-add n (value_part p.line p.square x) (λ j. prices j *ℤ number_at x j) in
    omega (arith, ints, same, added)

-- multipliers that sum to 0 add nothing at equal values
equal_values : (m x : ℕ → ℤ) (value : ℤ) (ss : List ℕ) → AllByRecursion (λ s. x s ≡ value) ss → sum_z m ss ≡ pos 0 → sum_z (λ s. m s *ℤ x s) ss ≡ pos 0
equal_values m x value ss same zero_sum =
    sum_z-same (λ s. m s *ℤ x s) (λ s. value *ℤ m s) ss (each ss same)
    ∙ sum_z-times value m ss
    ∙ ap (λ z. value *ℤ z) zero_sum
    ∙ *ℤ-zero value
  where
    each : (us : List ℕ) → AllByRecursion (λ s. x s ≡ value) us → AllByRecursion (λ s. m s *ℤ x s ≡ value *ℤ m s) us
    each [] h = tt
    each (u ∷ us) h = (ap (λ v. m u *ℤ v) h.0 ∙ *ℤ_comm (m u) value, each us h.1)

-- the nodes of a stage sum to 0 where each of them does
stage_zero : (f : ℕ → ℤ) (t : ℕ) (nodes : List Node) → AllByRecursion (λ (n : Node). n.stage ≡ t → sum_z f n.scenarios ≡ pos 0) nodes → sum_z f (members nodes t) ≡ pos 0
stage_zero f t [] h = refl
stage_zero f t (n ∷ nodes) h = by_stage (n.stage == t) refl (stage_zero f t nodes h.1)
  where
    by_stage : (b : Bool) → (n.stage == t) ≡ b → sum_z f (members nodes t) ≡ pos 0 → sum_z f (flat_map (λ (m : Node). m.scenarios) (cond b (n ∷ nodes_of nodes t) (nodes_of nodes t))) ≡ pos 0
    by_stage true e r =
        let at : n.stage ≡ t = grind arith in
        let own = h.0 at in
        omega (arith, ints, sum_z-append f n.scenarios (members nodes t))
    by_stage false e r = r

-- the scenarios of a stage are scenarios of the run
members_below : (count t : ℕ) (nodes : List Node) → AllByRecursion (λ (n : Node). All (λ s. s < count) n.scenarios) nodes → All (λ s. s < count) (members nodes t)
members_below count t [] h = All-nil (λ s. s < count)
members_below count t (n ∷ nodes) h = by_stage (n.stage == t) (members_below count t nodes h.1)
  where
    by_stage : (b : Bool) → All (λ s. s < count) (members nodes t) → All (λ s. s < count) (flat_map (λ (m : Node). m.scenarios) (cond b (n ∷ nodes_of nodes t) (nodes_of nodes t)))
    by_stage true r = All-append (λ s. s < count) n.scenarios (members nodes t) h.0 r
    by_stage false r = r

-- in a column of a plan, balanced multipliers sum to 0 over all scenarios
column_zero : (run : Run) (multipliers : Multipliers) (plan : Plan) (j : ℕ) → AreBalanced run multipliers → IsPlan run plan → j < length run.program.columns → sum_below (scenarios run) (λ s. multiplier_of run multipliers s j *ℤ number_at (point_of plan s) j) ≡ pos 0
column_zero run multipliers plan j balanced is l = by_leaf (nat_lt j run.nonleaf) refl
  where
    by_leaf : (b : Bool) → nat_lt j run.nonleaf ≡ b → sum_below (scenarios run) (λ s. multiplier_of run multipliers s j *ℤ number_at (point_of plan s) j) ≡ pos 0
    by_leaf false e =
        sum_below-same (scenarios run) (λ s. multiplier_of run multipliers s j *ℤ number_at (point_of plan s) j) (λ s. pos 0) (λ s k. ap (λ b. (if b then number_at multipliers.values (s * run.nonleaf + j) else pos 0) *ℤ number_at (point_of plan s) j) e ∙ zero_times (number_at (point_of plan s) j))
        ∙ sum_below-zero (scenarios run)
    by_leaf true e =
        let early = less_from_test j run.nonleaf e in
        let t = stage_of run j in
        let nodes = run.program.tree.nodes in
        let count = scenarios run in
        let m : ℕ → ℤ = λ s. multiplier_of run multipliers s j in
        let x : ℕ → ℤ = λ s. number_at (point_of plan s) j in
        let column = run.facts.stages.columns j no_column l in
        let below = recursion_from_All (λ s. s < count) (members nodes t) (members_below count t nodes (recursion_from_All (λ (n : Node). All (λ s. s < count) n.scenarios) nodes (λ k d h. (run.facts.tree.nodes k d h).there))) in
        let once : (k : ℕ) → k < count → count_by (λ u. u == k) (members nodes t) ≡ 1 = λ k h. run.facts.tree.once t k column.early column.late h in
        let zeros = recursion_from_All (λ (n : Node). n.stage ≡ t → sum_z (λ s. m s *ℤ x s) n.scenarios ≡ pos 0) nodes (λ k d h at.
        let n = get_or nodes k d in
        let first = get_or n.scenarios 0 0 in
        let same = recursion_from_All (λ s. x s ≡ x first) n.scenarios (λ i e h2. is.same (get_or n.scenarios i e) first j l (k, n, h, get_or_default nodes k n d h, (at, Contains-get_or n.scenarios i e h2, Contains-get_or n.scenarios 0 0 (omega arith)))) in
        equal_values m x (x first) n.scenarios same (balanced k d h j early (sym at))) in
        sum_below_once (λ s. m s *ℤ x s) count (members nodes t) below once ∙ stage_zero (λ s. m s *ℤ x s) t nodes zeros

-- balanced multipliers add nothing to the cost of a plan
plan_zero : (run : Run) (multipliers : Multipliers) (plan : Plan) → AreBalanced run multipliers → IsPlan run plan → sum_below (scenarios run) (λ s. sum_below (length run.program.columns) (λ j. multiplier_of run multipliers s j *ℤ number_at (point_of plan s) j)) ≡ pos 0
plan_zero run multipliers plan balanced is =
    let count = scenarios run in
    let n = length run.program.columns in
    let f : ℕ → ℕ → ℤ = λ s j. multiplier_of run multipliers s j *ℤ number_at (point_of plan s) j in
    let rows = range_with_len 0 count in
    let columns = range_with_len 0 n in
    sum_below_is count (λ s. sum_below n (f s))
    ∙ sum_z-same (λ s. sum_below n (f s)) (λ s. sum_z (f s) columns) rows (recursion_from_All (λ s. sum_below n (f s) ≡ sum_z (f s) columns) rows (λ k d h. sum_below_is n (f (get_or rows k d))))
    ∙ sum_z-swap f rows columns
    ∙ sym (sum_below_is n (λ j. sum_z (λ s. f s j) rows))
    ∙ sum_below-same n (λ j. sum_z (λ s. f s j) rows) (λ j. pos 0) (λ j l. sym (sum_below_is count (λ s. f s j)) ∙ column_zero run multipliers plan j balanced is l)
    ∙ sum_below-zero n

pub dual_below : (run : Run) (multipliers : Multipliers) (bound : ℤ) (plan : Plan) → AreBalanced run multipliers → dual_of run multipliers ≡ Some bound → IsPlan run plan → bound ≤ℤ cost_of run plan
unfolding dual_of
dual_below run multipliers bound plan balanced e is =
    let n = length run.program.columns in
    let added : ℕ → ℤ = λ s. sum_below n (λ j. multiplier_of run multipliers s j *ℤ number_at (point_of plan s) j) in
    let own : ℕ → ℤ = λ s. value_of (problem_in run s) (point_of plan s) in
    let below = sum_some-le (scenarios run) (λ s. least_of (with_prices (problem_in run s) (multiplier_of run multipliers s))) (λ s. own s +ℤ added s) bound e (λ s v l d.
    let x = point_of plan s in
    let feasible = is.feasible s l in
    let least = least_below (with_prices (problem_in run s) (multiplier_of run multipliers s)) (run_filled run) v x d (record { inside = feasible.inside; rows = feasible.rows }) in
    let raised = priced_value (problem_in run s) (multiplier_of run multipliers s) x in
    let long : sum_below (length (sides run.program)) (λ j. multiplier_of run multipliers s j *ℤ number_at x j) ≡ added s = ap (λ k. sum_below k (λ j. multiplier_of run multipliers s j *ℤ number_at x j)) (length-map run.program.columns side_of) in
    omega (arith, ints)) in
    omega (arith, ints, sum_below-add (scenarios run) own added, plan_zero run multipliers plan balanced is)
