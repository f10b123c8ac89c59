-- Where no place fails the points are a plan, and where one fails they aren't.

use Rattle.std.proofs.Common.{arith, refl, sym, ap, subst, ◌∙◌, ◌≡◌, ℕ, ◌<◌, Bool, true, false, length, get_or, int_le, Option, Some, None, Result, Ok, Err, OnOk, OnErr, if◌then◌else◌}
use Rattle.std.proofs.lemmas.Bool.{and_from}
use Rattle.std.specs.List.{Contains, range_with_len}
use Rattle.std.specs.Option.{option_or}
use Rattle.std.specs.Ordering.{int_eq}
use Rattle.std.specs.Result.{result_err}
use Rattle.std.proofs.lemmas.Bool.Decides.{Decides-int_eq}
use Rattle.std.proofs.lemmas.List.{get_or_default}
use Rattle.std.proofs.lemmas.List.Elements.{All-contains, All-from_recursion, Contains-get_or, recursion_from_All}
use Rattle.std.proofs.lemmas.List.FromFn.{get_or-range_with_len, length-range_with_len}
use Rattle.base_words.specs.FirstAnswers.{first_some}
use Rattle.base_words.proofs.Comparisons.{both_left, both_right, most_from_test, test_from_most}
use Rattle.base_words.proofs.FirstAnswers.{first_some-all_none, first_some-none, left_none, right_none}
use Rattle.base_words.proofs.NumberTests.{same_from_test, test_from_same}
use Rattle.boxed_problem.specs.BoxedFacts.{limits_at}
use Rattle.boxed_problem.specs.Optimum.{Feasible}
use Rattle.boxed_problem.specs.Points.{InBox}
use Rattle.boxed_problem.specs.Rows.{meets}
use Rattle.boxed_problem.specs.Sides.{side_at}
use Rattle.run_calls.specs.MultiplierTests.{is_of_stage, node_at}
use Rattle.run_calls.proofs.NumberedAnswers.{number_each}
use Rattle.sp_model.specs.Changes.{sides}
use Rattle.sp_model.specs.Plans.{AreNonanticipative, IsPlan, point_of, stage_of}
use Rattle.sp_model.specs.Problems.{data_at, problem_in, scenarios}
use Rattle.sp_model.specs.declared.plan.Plan.{Plan}
use Rattle.sp_model.specs.declared.run.Run.{Run}
use Rattle.sp_model.proofs.DataFacts.{data_keeps}
use Rattle.tree_core.specs.Nodes.{first_of, no_node, scenarios_at}
use Rattle.tree_core.specs.declared.tree.Node.{Node}
use Rattle.plan_calls.specs.PlanTests.{ArePoints, activity_in, differs_at, first_value, infeasible, infeasible_in, lies_on, no_plan, outside_at, outside_in, split, split_at, split_in, unmet_at, unmet_in, value_in}
use Rattle.plan_calls.specs.declared.failure.NoPlan.{NoPlan}
use Rattle.plan_calls.specs.declared.failure.NoPlan.TheVariants.{Outside, Row, Split}
use Rattle.plan_calls.proofs.PlanValues.{columns_long}

both_none : {B : Type 0} (a b : Option B) → a ≡ None → b ≡ None → option_or a b ≡ None
both_none a b h k = ap (λ o. option_or o b) h ∙ k

-- a test that tells nothing holds, and one that holds tells nothing
silent : {B : Type 0} (t : Bool) (b : B) → (if t then None else Some b) ≡ None → t ≡ true
silent true b h = refl
silent false b h = absurd (let x = h in cc)

holds_silent : {B : Type 0} (t : Bool) (b : B) → t ≡ true → (if t then None else Some b) ≡ None
holds_silent t b h = ap (λ u. if u then None else Some b) h

-- none of the numbers below n answers
pub none_below : {B : Type 0} (f : ℕ → Option B) (n : ℕ) → ((k : ℕ) → k < n → f k ≡ None) → first_some f (range_with_len 0 n) ≡ None
none_below f n h =
    let xs = range_with_len 0 n in
    first_some-none f xs (recursion_from_All (λ k. f k ≡ None) xs (λ k d l. let at : get_or xs k d ≡ k = get_or-range_with_len 0 n k d (omega (arith, l, length-range_with_len 0 n)) ∙ omega arith in ap f at ∙ h k (omega (arith, l, length-range_with_len 0 n))))

-- where no column is outside, the point lies in the box
pub box_inside : (run : Run) (plan : Plan) (s : ℕ) → ArePoints run plan → s < scenarios run → outside_in run plan s ≡ None → InBox (sides run.program) (point_of plan s)
box_inside run plan s points there none = record {
  long = points.whole s there ∙ sym (columns_long run);
  lower = λ j l. most_from_test (side_at (sides run.program) j).lower (value_in plan s j) (both_left (int_le (side_at (sides run.program) j).lower (value_in plan s j)) (int_le (value_in plan s j) (side_at (sides run.program) j).upper) (lies j (omega (arith, l, columns_long run))));
  upper = λ j l. most_from_test (value_in plan s j) (side_at (sides run.program) j).upper (both_right (int_le (side_at (sides run.program) j).lower (value_in plan s j)) (int_le (value_in plan s j) (side_at (sides run.program) j).upper) (lies j (omega (arith, l, columns_long run))));
}
  where
    lies : (j : ℕ) → j < length run.program.columns → lies_on (side_at (sides run.program) j) (value_in plan s j) ≡ true
    lies j l = silent (lies_on (side_at (sides run.program) j) (value_in plan s j)) (Outside s j (value_in plan s j)) (number_each (outside_at run plan s) (length run.program.columns) j none l)

-- where none of both fails, the point is feasible
point_feasible : (run : Run) (plan : Plan) (s : ℕ) → ArePoints run plan → s < scenarios run → infeasible_in run plan s ≡ None → Feasible (problem_in run s) (point_of plan s)
point_feasible run plan s points there none =
    let rows = right_none (outside_in run plan s) (unmet_in run plan s) none in
    let long = (data_keeps run s there).limits_long in
    record {
      inside = box_inside run plan s points there (left_none (outside_in run plan s) (unmet_in run plan s) none);
      rows = λ i l. silent (meets (limits_at (data_at run s).limits i) (activity_in run plan s i)) (Row s i (activity_in run plan s i)) (number_each (unmet_at run plan s) (length run.program.rows) i rows (omega (arith, l, long)));
    }

-- where no node is split, the scenarios of a node have the value of its first one
node_same : (run : Run) (plan : Plan) (i j s : ℕ) → split run plan ≡ None → i < length run.program.tree.nodes → j < length run.program.columns → stage_of run j ≡ (node_at run i).stage → Contains (scenarios_at run.program.tree.nodes i) s → value_in plan s j ≡ first_value run plan i j
node_same run plan i j s none node l stage has =
    let first = first_value run plan i j in
    let ns = scenarios_at run.program.tree.nodes i in
    let in_node = number_each (split_in run plan) (length run.program.tree.nodes) i none node in
    let in_column = number_each (split_at run plan i) (length run.program.columns) j in_node l in
    let members = ap (λ t. if t then first_some (differs_at plan i j first) ns else None) (sym (test_from_same (stage_of run j) (node_at run i).stage stage)) ∙ in_column in
    let all = All-from_recursion (λ u. differs_at plan i j first u ≡ None) ns (first_some-all_none (differs_at plan i j first) ns members) in
    let own = All-contains (λ u. differs_at plan i j first u ≡ None) ns s all has in
    (Decides-int_eq (value_in plan s j) first).0 (silent (int_eq (value_in plan s j) first) (Split i j first (value_in plan s j)) own)

nonanticipative : (run : Run) (plan : Plan) → split run plan ≡ None → AreNonanticipative run plan
nonanticipative run plan none s u j l (i, n, node, is, (stage, has, other)) =
    let nodes = run.program.tree.nodes in
    let at : n ≡ node_at run i = sym is ∙ get_or_default nodes i n no_node node in
    let P : Node → Type 0 = λ m. Contains m.scenarios s in
    let Q : Node → Type 0 = λ m. Contains m.scenarios u in
    let same_stage : stage_of run j ≡ (node_at run i).stage = sym stage ∙ ap (λ (m : Node). m.stage) at in
    node_same run plan i j s none node l same_stage (subst P at has) ∙ sym (node_same run plan i j u none node l same_stage (subst Q at other))

-- no failure: a plan
none_is_plan : (run : Run) (plan : Plan) → ArePoints run plan → no_plan run plan ≡ None → IsPlan run plan
unfolding no_plan
none_is_plan run plan points none =
    let apart = right_none (infeasible run plan) (split run plan) none in
    let each = left_none (infeasible run plan) (split run plan) none in
    record {
      long = points.long;
      feasible = λ s l. point_feasible run plan s points l (number_each (infeasible_in run plan) (scenarios run) s each l);
      same = nonanticipative run plan apart;
    }

-- a plan: no failure
plan_inside : (run : Run) (plan : Plan) (s j : ℕ) → InBox (sides run.program) (point_of plan s) → j < length run.program.columns → outside_at run plan s j ≡ None
plan_inside run plan s j inside l =
    let side = side_at (sides run.program) j in
    let v = value_in plan s j in
    let there : j < length (sides run.program) = omega (arith, l, columns_long run) in
    holds_silent (lies_on side v) (Outside s j v) (and_from (int_le side.lower v) (int_le v side.upper) (test_from_most side.lower v (inside.lower j there)) (test_from_most v side.upper (inside.upper j there)))

plan_feasible : (run : Run) (plan : Plan) (s : ℕ) → s < scenarios run → Feasible (problem_in run s) (point_of plan s) → infeasible_in run plan s ≡ None
plan_feasible run plan s there feasible =
    let long = (data_keeps run s there).limits_long in
    both_none (outside_in run plan s) (unmet_in run plan s)
    (none_below (outside_at run plan s) (length run.program.columns) (λ j l. plan_inside run plan s j feasible.inside l))
    (none_below (unmet_at run plan s) (length run.program.rows) (λ i l. holds_silent (meets (limits_at (data_at run s).limits i) (activity_in run plan s i)) (Row s i (activity_in run plan s i)) (feasible.rows i (omega (arith, l, long)))))

member_same : (run : Run) (plan : Plan) (i j k d : ℕ) → AreNonanticipative run plan → i < length run.program.tree.nodes → j < length run.program.columns → stage_of run j ≡ (node_at run i).stage → k < length (node_at run i).scenarios → differs_at plan i j (first_value run plan i j) (get_or (node_at run i).scenarios k d) ≡ None
member_same run plan i j k d same node l stage h =
    let nodes = run.program.tree.nodes in
    let n = node_at run i in
    let s = get_or n.scenarios k d in
    let first = first_value run plan i j in
    let filled = (run.facts.tree.nodes i no_node node).filled in
    let equal = same s (first_of n) j l (i, n, node, get_or_default nodes i n no_node node, (sym stage, Contains-get_or n.scenarios k d h, Contains-get_or n.scenarios 0 0 filled)) in
    holds_silent (int_eq (value_in plan s j) first) (Split i j first (value_in plan s j)) ((Decides-int_eq (value_in plan s j) first).1 equal)

plan_same : (run : Run) (plan : Plan) (i j : ℕ) → AreNonanticipative run plan → i < length run.program.tree.nodes → j < length run.program.columns → split_at run plan i j ≡ None
plan_same run plan i j same node l = by_stage (is_of_stage run i j) refl
  where
    by_stage : (t : Bool) → is_of_stage run i j ≡ t → (if t then first_some (differs_at plan i j (first_value run plan i j)) (scenarios_at run.program.tree.nodes i) else None) ≡ None
    by_stage false e = refl
    by_stage true e =
        let ns = scenarios_at run.program.tree.nodes i in
        let first = first_value run plan i j in
        let stage = same_from_test (stage_of run j) (node_at run i).stage e in
        first_some-none (differs_at plan i j first) ns (recursion_from_All (λ u. differs_at plan i j first u ≡ None) ns (λ k d h. member_same run plan i j k d same node l stage h))

plan_is_none : (run : Run) (plan : Plan) → IsPlan run plan → no_plan run plan ≡ None
unfolding no_plan
plan_is_none run plan is =
    both_none (infeasible run plan) (split run plan)
    (none_below (infeasible_in run plan) (scenarios run) (λ s l. plan_feasible run plan s l (is.feasible s l)))
    (none_below (split_in run plan) (length run.program.tree.nodes) (λ i l. none_below (split_at run plan i) (length run.program.columns) (λ j h. plan_same run plan i j is.same l h)))

pub some_is_none : (run : Run) (plan : Plan) (failure : NoPlan) → no_plan run plan ≡ Some failure → IsPlan run plan → ⊥
some_is_none run plan failure found is = let none = plan_is_none run plan is in absurd (let x = sym found ∙ none in cc)

-- the first failure of two tests in turn
pub front_fails : {B : Type 0} (a b : Option B) (f : B) → a ≡ Some f → Some f ≡ option_or a b
front_fails a b f h = sym (ap (λ o. option_or o b) h)

pub front_holds : {B : Type 0} (a b c : Option B) → a ≡ None → c ≡ b → c ≡ option_or a b
front_holds a b c h k = k ∙ sym (ap (λ o. option_or o b) h)

-- what an answer says that tells the first failure
pub ok_is_plan : {T : Type 0} (run : Run) (plan : Plan) (points : ArePoints run plan) (result : Result T NoPlan) → result_err result ≡ no_plan run plan → OnOk result (IsPlan run plan)
ok_is_plan run plan points (Ok value) e = none_is_plan run plan points (sym e)
ok_is_plan run plan points (Err failure) e = tt

pub err_is_none : {T : Type 0} (run : Run) (plan : Plan) (result : Result T NoPlan) → result_err result ≡ no_plan run plan → OnErr result (IsPlan run plan → ⊥)
err_is_none run plan (Ok value) e = tt
err_is_none run plan (Err failure) e = some_is_none run plan failure (sym e)
