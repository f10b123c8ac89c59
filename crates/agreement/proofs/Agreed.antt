-- Values agree where each node has one in each column of its stage; points whose values agree are a plan.

use Rattle.std.proofs.Common.{refl, sym, ap, subst, ◌∙◌, ◌≡◌, ℕ, ◌<◌, nat_lt, Bool, true, false, List, length, get_or, ℤ, Some, All}
use Rattle.std.proofs.lemmas.List.{get_or_default}
use Rattle.std.proofs.lemmas.List.Elements.{All-contains, Contains-get_or}
use Rattle.std.specs.List.{Contains}
use Rattle.base_words.specs.Sums.{number_at}
use Rattle.base_words.proofs.NumberTests.{less_from_test, not_less_from_test}
use Rattle.tree_core.specs.Nodes.{Share, first_of, no_node}
use Rattle.tree_core.specs.declared.tree.Node.{Node}
use Rattle.sp_model.specs.Plans.{AreNonanticipative, IsPlan, point_of, stage_of}
use Rattle.sp_model.specs.Problems.{scenarios}
use Rattle.sp_model.specs.declared.run.Run.{Run}
use Rattle.run_calls.specs.MultiplierTests.{node_at}
use Rattle.put_words.specs.NodeSums.{value_at}
use Rattle.put_words.specs.Puts.{Made, put_of}
use Rattle.agreement.specs.Agreeing.{AreAgreed, AreOne, AreOneBelow}
use Rattle.agreement.proofs.LateStages.{late_stage, leaf_alone, other_there, shares_there}
use Rattle.agreement.proofs.MadePoints.{IsMadeOf, made_of_points, points_best, points_feasible, values_are}

-- the value of a scenario of a node is that of its first one
of_first : (run : Run) (x : List ℤ) (i j s : ℕ) → AreOne run x i j → Contains (node_at run i).scenarios s → value_at run x s j ≡ value_at run x (first_of (node_at run i)) j
of_first run x i j s all has = All-contains (λ u. value_at run x u j ≡ value_at run x (first_of (node_at run i)) j) (node_at run i).scenarios s all has

-- where each node has one value in each column of its stage, the values agree
pub nodes_agree : (run : Run) (x : List ℤ) → ((i : ℕ) → i < length run.program.tree.nodes → AreOneBelow run x i run.nonleaf) → AreAgreed run x
nodes_agree run x each s u j l (i, n, node, is, (stage, has, other)) =
    let nodes = run.program.tree.nodes in
    let at : n ≡ node_at run i = sym is ∙ get_or_default nodes i n no_node node in
    let P : Node → Type 0 = λ m. Contains m.scenarios s in
    let Q : Node → Type 0 = λ m. Contains m.scenarios u in
    let same_stage : stage_of run j ≡ (node_at run i).stage = sym stage ∙ ap (λ (m : Node). m.stage) at in
    let one = each i node j l same_stage in
    of_first run x i j s one (subst P at has) ∙ sym (of_first run x i j u one (subst Q at other))

pub agreed_nodes : (run : Run) (x : List ℤ) (i : ℕ) → AreAgreed run x → i < length run.program.tree.nodes → AreOneBelow run x i run.nonleaf
agreed_nodes run x i same node j l stage k d h =
    let nodes = run.program.tree.nodes in
    let n = node_at run i in
    let filled = (run.facts.tree.nodes i no_node node).filled in
    same (get_or n.scenarios k d) (first_of n) j l (i, n, node, get_or_default nodes i n no_node node, (sym stage, Contains-get_or n.scenarios k d h, Contains-get_or n.scenarios 0 0 filled))

module _ (run : Run) (made : Made) (is : IsMadeOf run made) (agreed : AreAgreed run made.put.x) where
  same_values : AreNonanticipative run made.plan
  same_values s u j l share = by_leaf (nat_lt j run.nonleaf) refl
    where
      by_leaf : (b : Bool) → nat_lt j run.nonleaf ≡ b → number_at (point_of made.plan s) j ≡ number_at (point_of made.plan u) j
      by_leaf true e =
          let early = less_from_test j run.nonleaf e in
          sym (values_are run made is s j (shares_there run s u (stage_of run j) share) early)
          ∙ agreed s u j early share
          ∙ values_are run made is u j (other_there run s u (stage_of run j) share) early
      by_leaf false e =
          let late = late_stage run j (not_less_from_test j run.nonleaf e) l in
          ap (λ v. number_at (point_of made.plan v) j) (leaf_alone run s u (subst (Share run.program.tree.nodes s u) late share))

  pub agreed_plan : IsPlan run made.plan
  agreed_plan = record {
    long = (points_best run made is).long;
    feasible = points_feasible run made is;
    same = same_values;
  }

pub agreed_is_plan : (run : Run) (k : ℕ) (made : Made) → put_of run k ≡ Some made → AreAgreed run made.put.x → IsPlan run made.plan
agreed_is_plan run k made e agreed = agreed_plan run made (made_of_points run k made e) agreed
