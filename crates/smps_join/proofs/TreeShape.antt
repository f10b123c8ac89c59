-- The tree of a run: a node of the last stage has one scenario, and nodes lie in nodes.
use Rattle.std.proofs.Common.{arith, refl, sym, subst, ◌∙◌, ◌≡◌, ℕ, ◌<◌, ◌≤◌, nat_le, Bool, true, false, List, length, get_or}
use Rattle.std.specs.List.{All, Contains}
use Rattle.std.proofs.lemmas.List.{get_or_default}
use Rattle.std.proofs.Math.Nat.{mul-le-mul}
use Rattle.tree_core.specs.Marks.{mark_of, tree_of}
use Rattle.tree_core.specs.Nodes.{IsNode}
use Rattle.tree_core.specs.declared.tree.Node.{Node}
use Rattle.tree_core.proofs.TreeLaws.{tree_few, tree_nested, tree_nodes, tree_once, tree_ordered, tree_shared}
use Rattle.smps_stoch.specs.declared.stoch.Stoch.{Stoch}
use Rattle.scenario_lists.specs.Nesting.{HavePeriods}
use Rattle.scenario_lists.specs.ScenarioList.{HaveAllParents, count_of, marks_of}
use Rattle.scenario_lists.proofs.Nesting.{last_marks_differ, marks_long, marks_nested}
use Rattle.sp_model.specs.RunFacts.{TreeFacts}

-- marks of which no two are the same at the last stage
abbrev AreApart : ℕ → List (List ℕ) → Type 0
AreApart stages owners = (s u : ℕ) → s < length owners → u < length owners → mark_of owners stages s ≡ mark_of owners stages u → s ≡ u

lone_node : (stages : ℕ) (owners : List (List ℕ)) (k : ℕ) (n : Node) → AreApart stages owners → k < length (tree_of stages owners).nodes → get_or (tree_of stages owners).nodes k n ≡ n → IsNode stages (length owners) n → n.stage ≡ stages → length n.scenarios ≡ 1
lone_node stages owners k n apart lt at is last = by_test (nat_le 2 (length n.scenarios)) refl
  where
    by_test : (t : Bool) → nat_le 2 (length n.scenarios) ≡ t → length n.scenarios ≡ 1
    by_test true e =
        let two : 2 ≤ length n.scenarios = grind arith in
        let s = get_or n.scenarios 0 0 in
        let u = get_or n.scenarios 1 0 in
        let less : s < u = is.ascending 0 1 0 (omega arith) (omega (arith, two)) in
        let s_there : s < length owners = is.there 0 0 (omega (arith, two)) in
        let u_there : u < length owners = is.there 1 0 (omega (arith, two)) in
        let s_in : Contains n.scenarios s = (0, omega (arith, two), get_or_default n.scenarios 0 s 0 (omega (arith, two))) in
        let u_in : Contains n.scenarios u = (1, omega (arith, two), get_or_default n.scenarios 1 u 0 (omega (arith, two))) in
        let marks = tree_shared stages owners stages s u (k, n, lt, at, (last, s_in, u_in)) in
        absurd (omega (arith, less, apart s u s_there u_there marks))
    by_test false e = let few : length n.scenarios < 2 = grind arith in omega (arith, few, is.filled)

lone : (stages : ℕ) (owners : List (List ℕ)) → AreApart stages owners → All (λ (n : Node). n.stage ≡ stages → length n.scenarios ≡ 1) (tree_of stages owners).nodes
lone stages owners apart k d lt last =
    let n = get_or (tree_of stages owners).nodes k d in
    lone_node stages owners k n apart lt (get_or_default (tree_of stages owners).nodes k n d lt) (tree_nodes stages owners k d lt) last

pub tree_facts : (stages count : ℕ) (stoch : Stoch) → 1 ≤ stages → stages ≤ 8 → count ≤ 4096 → count ≡ count_of stoch → HaveAllParents stoch → HavePeriods stages stoch → TreeFacts (tree_of stages (marks_of stages stoch)) count
unfolding tree_of
tree_facts stages count stoch some few crowd is parents early =
    let owners = marks_of stages stoch in
    let long : count ≡ length owners = is ∙ sym (marks_long stages stoch) in
    let apart : AreApart stages owners = λ s u s_lt u_lt same. last_marks_differ stages stoch some early s u (omega (arith, s_lt, marks_long stages stoch)) (omega (arith, u_lt, marks_long stages stoch)) same in
    let facts : TreeFacts (tree_of stages owners) (length owners) = record {
      once = tree_once stages owners;
      nodes = tree_nodes stages owners;
      ordered = tree_ordered stages owners;
      leaves = lone stages owners apart;
      nested = tree_nested stages owners (marks_nested stages stoch parents);
      few = omega (arith, tree_few stages owners, mul-le-mul few crowd, long, mul-le-mul few (at_most_is (length owners) count long crowd));
    } in
    subst (TreeFacts (tree_of stages owners)) (sym long) facts
  where
    at_most_is : (a b : ℕ) → b ≡ a → b ≤ 4096 → a ≤ 4096
    at_most_is a b e h = omega (arith, e, h)
