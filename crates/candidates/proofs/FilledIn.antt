-- Values that are filled in: one scenario more, one column more, one node more.

use Rattle.std.proofs.Common.{arith, refl, sym, ap, subst, inl, inr, ◌∙◌, ◌≡◌, ◌≢◌, ◌⊎◌, ℕ, ◌+◌, ◌*◌, ◌%◌, ◌/◌, ◌<◌, ◌≤◌, true, false, List, length, get_or, set, ℤ, pos, ◌≤ℤ◌}
use Rattle.std.proofs.lemmas.Bool.{cases_eq, cases_lt}
use Rattle.std.proofs.lemmas.List.{get_or-set_other, get_or-set_same, get_or_default, length-set}
use Rattle.boxed_problem.specs.Sides.{side_at}
use Rattle.sp_model.specs.Changes.{sides}
use Rattle.std.proofs.lemmas.Nat.{div-mul-add, mod-mul-add, mul-add-lt}
use Rattle.std.proofs.Math.Nat.{mul_comm}
use Rattle.std.specs.List.{Contains}
use Rattle.base_words.specs.Sums.{number_at}
use Rattle.base_words.proofs.NumberTests.{same_from_test, test_from_same}
use Rattle.put_words.specs.NodeSums.{AreInside, node_for, value_at}
use Rattle.put_words.proofs.Rises.{node_below}
use Rattle.run_calls.specs.MultiplierTests.{is_of_stage, node_at}
use Rattle.sp_model.specs.Plans.{stage_of}
use Rattle.sp_model.specs.Problems.{scenarios}
use Rattle.sp_model.specs.declared.run.Run.{Run}
use Rattle.tree_core.specs.Nodes.{scenarios_at}
use Rattle.agreement.specs.Agreeing.{AreAgreed, AreWhole}
use Rattle.agreement.proofs.LateStages.{other_there, shares_there}
use Rattle.candidates.specs.Values.{HasValues}
use Rattle.candidates.specs.Choices.{chosen, chosen_for}
use Rattle.candidates.specs.Filling.{AreFilled, IsDone, IsPut}
use Rattle.candidates.specs.declared.candidate.Candidate.{Candidate}
use Rattle.candidates.specs.declared.choosing.Choice.{Choice}
use Rattle.candidates.proofs.Means.{chosen_inside}
use Rattle.put_words.proofs.Bundles.{node_is}
use Rattle.candidates.proofs.Sharing.{own_in, own_stage, shared_bundle}

-- two cells of a table are at one place only where they are the same
cell_same : (m s j u k : ℕ) → j < m → k < m → s * m + j ≡ u * m + k → (s ≡ u) × (j ≡ k)
cell_same m s j u k h l e =
    (sym (div-mul-add s m j h) ∙ ap (λ n. n / m) e ∙ div-mul-add u m k l, sym (mod-mul-add s m j h) ∙ ap (λ n. n % m) e ∙ mod-mul-add u m k l)

-- nothing is put yet
pub put_none : (run : Run) (old : List ℤ) (members : List ℕ) (column : ℕ) (value : ℤ) → IsPut run old members 0 column value old
put_none run old members column value = record { long = refl; put = λ i l. absurd (omega arith); kept = λ s j h apart. refl }

-- a scenario's cell in a table of the run
cell_there : (run : Run) (values : List ℤ) (s j : ℕ) → AreWhole run values → s < scenarios run → j < run.nonleaf → s * run.nonleaf + j < length values
cell_there run values s j long l h = omega (arith, long, mul-add-lt s run.nonleaf j (scenarios run) l h, mul_comm (scenarios run) run.nonleaf)

-- where the value of scenario s in column j stands
abbrev cell_of : Run → ℕ → ℕ → ℕ
cell_of run s j = s * run.nonleaf + j

-- one scenario more
pub put_next : (run : Run) (old mid new : List ℤ) (members : List ℕ) (k column : ℕ) (value : ℤ) → AreWhole run old → column < run.nonleaf → get_or members k 0 < scenarios run → IsPut run old members k column value mid → new ≡ set mid (cell_of run (get_or members k 0) column) value → IsPut run old members (k + 1) column value new
put_next run old mid new members k column value long h own before made = record {
  long = ap length made ∙ length-set mid (cell_of run (get_or members k 0) column) value ∙ before.long;
  put = λ i l. ap (λ xs. number_at xs (cell_of run (get_or members i 0) column)) made ∙ by_member i l (cases_eq (get_or members i 0) (get_or members k 0));
  kept = λ u j g apart. ap (λ xs. number_at xs (cell_of run u j)) made ∙ get_or-set_other mid (cell_of run (get_or members k 0) column) (cell_of run u j) value (pos 0) (other u j g apart) ∙ before.kept u j g (λ i l. apart i (omega (arith, l)));
}
  where
    other : (u j : ℕ) → j < run.nonleaf → ((i : ℕ) → i < k + 1 → get_or members i 0 ≡ u → j ≡ column → ⊥) → cell_of run u j ≢ cell_of run (get_or members k 0) column
    other u j g apart e =
        let same = cell_same run.nonleaf u j (get_or members k 0) column g h e in
        apart k (omega arith) (sym same.0) same.1

    by_member : (i : ℕ) → i < k + 1 → (get_or members i 0 ≡ get_or members k 0) ⊎ (get_or members i 0 ≡ get_or members k 0 → ⊥) → number_at (set mid (cell_of run (get_or members k 0) column) value) (cell_of run (get_or members i 0) column) ≡ value
    by_member i l (inl same) =
        let there = cell_there run mid (get_or members k 0) column (before.long ∙ long) own h in
        ap (λ u. number_at (set mid (cell_of run (get_or members k 0) column) value) (cell_of run u column)) same ∙ get_or-set_same mid (cell_of run (get_or members k 0) column) value (pos 0) there
    by_member i l (inr differs) =
        let apart : i ≢ k = λ same. differs (ap (λ n. get_or members n 0) same) in
        let earlier : i < k = omega (arith, l, apart) in
        get_or-set_other mid (cell_of run (get_or members k 0) column) (cell_of run (get_or members i 0) column) value (pos 0) (λ e. differs (cell_same run.nonleaf (get_or members i 0) column (get_or members k 0) column h h e).0) ∙ before.put i earlier

-- a node that isn't of the column's stage
pub filled_off : (run : Run) (x : List ℤ) (c : Choice) (i n : ℕ) (values : List ℤ) → n < run.nonleaf → is_of_stage run i n ≡ false → AreFilled run x c i n values → AreFilled run x c i (n + 1) values
filled_off run x c i n values g off before = record { whole = before.whole; each = λ s j l h. by_node s j l h }
  where
    stage_test : (s j : ℕ) → s < scenarios run → j < run.nonleaf → node_for run s j ≡ i → j ≡ n → ⊥
    stage_test s j l h own same =
        let stage : stage_of run n ≡ (node_at run i).stage = ap (stage_of run) (sym same) ∙ sym (own_stage run s j l h) ∙ ap (λ k. (node_at run k).stage) own in
        let on = test_from_same (stage_of run n) (node_at run i).stage stage in
        absurd (let e = sym on ∙ off in cc)

    by_column : (s j : ℕ) → s < scenarios run → j < run.nonleaf → node_for run s j ≡ i → j < n + 1 → (j ≡ n) ⊎ (j ≡ n → ⊥) → value_at run values s j ≡ chosen_for run x c s j
    by_column s j l h own b (inl same) = absurd (stage_test s j l h own same)
    by_column s j l h own b (inr other) = before.each s j l h (inr (own, omega (arith, b, other)))

    by_node : (s j : ℕ) → s < scenarios run → j < run.nonleaf → IsDone run i (n + 1) s j → value_at run values s j ≡ chosen_for run x c s j
    by_node s j l h (inl earlier) = before.each s j l h (inl earlier)
    by_node s j l h (inr (own, b)) = by_column s j l h own b (cases_eq j n)

-- a node of the column's stage
pub filled_on : (run : Run) (x : List ℤ) (c : Choice) (i n : ℕ) (old new : List ℤ) (members : List ℕ) (value : ℤ) → i < length run.program.tree.nodes → n < run.nonleaf → is_of_stage run i n ≡ true → members ≡ scenarios_at run.program.tree.nodes i → value ≡ chosen run x c (scenarios_at run.program.tree.nodes i) n →
    IsPut run old members (length members) n value new → AreFilled run x c i n old → AreFilled run x c i (n + 1) new
filled_on run x c i n old new members value node g on are chose put before = record { whole = put.long ∙ before.whole; each = λ s j l h. by_node s j l h }
  where
    -- a member's node is this one
    member_node : (s k : ℕ) → k < length members → get_or members k 0 ≡ s → node_for run s n ≡ i
    member_node s k l e =
        let ns = scenarios_at run.program.tree.nodes i in
        let there : k < length ns = omega (arith, l, ap length are) in
        let is : get_or ns k s ≡ s = get_or_default ns k s 0 there ∙ sym (ap (λ xs. get_or xs k 0) are) ∙ e in
        let stage = same_from_test (stage_of run n) (node_at run i).stage on in
        node_is run i s n node g stage (k, there, is)

    -- a scenario whose node is this one is a member
    own_member : (s : ℕ) → s < scenarios run → node_for run s n ≡ i → value_at run new s n ≡ value
    own_member s l own =
        let has = subst (λ k. Contains (scenarios_at run.program.tree.nodes k) s) own (own_in run s n l g) in
        let there : has.0 < length members = omega (arith, has.1, ap length are) in
        let is : get_or members has.0 0 ≡ s = ap (λ xs. get_or xs has.0 0) are ∙ get_or_default (scenarios_at run.program.tree.nodes i) has.0 0 s has.1 ∙ has.2 in
        ap (λ u. value_at run new u n) (sym is) ∙ put.put has.0 there

    by_column : (s j : ℕ) → s < scenarios run → j < run.nonleaf → node_for run s j ≡ i → j < n + 1 → (j ≡ n) ⊎ (j ≡ n → ⊥) → value_at run new s j ≡ chosen_for run x c s j
    by_column s j l h own b (inl same) =
        let own_here : node_for run s n ≡ i = ap (node_for run s) (sym same) ∙ own in
        ap (value_at run new s) same
        ∙ own_member s l own_here
        ∙ chose
        ∙ ap (λ k. chosen run x c (scenarios_at run.program.tree.nodes k) n) (sym own_here)
        ∙ ap (chosen_for run x c s) (sym same)
    by_column s j l h own b (inr other) = put.kept s j h (λ k m e same. absurd (other same)) ∙ before.each s j l h (inr (own, omega (arith, b, other)))

    by_node : (s j : ℕ) → s < scenarios run → j < run.nonleaf → IsDone run i (n + 1) s j → value_at run new s j ≡ chosen_for run x c s j
    by_node s j l h (inl earlier) =
        put.kept s j h (λ k m e same. let own = ap (node_for run s) same ∙ member_node s k m e in absurd (omega (arith, earlier, own)))
        ∙ before.each s j l h (inl earlier)
    by_node s j l h (inr (own, b)) = by_column s j l h own b (cases_eq j n)

-- all columns of a node
pub filled_node : (run : Run) (x : List ℤ) (c : Choice) (i n : ℕ) (values : List ℤ) → n ≡ run.nonleaf → AreFilled run x c i n values → AreFilled run x c (i + 1) 0 values
filled_node run x c i n values all before = record { whole = before.whole; each = λ s j l h. by_before s j l h }
  where
    by_node : (s j : ℕ) → s < scenarios run → j < run.nonleaf → node_for run s j < i + 1 → (node_for run s j < i) ⊎ (i ≤ node_for run s j) → value_at run values s j ≡ chosen_for run x c s j
    by_node s j l h b (inl earlier) = before.each s j l h (inl earlier)
    by_node s j l h b (inr late) = before.each s j l h (inr (omega (arith, b, late), omega (arith, h, all)))

    by_before : (s j : ℕ) → s < scenarios run → j < run.nonleaf → IsDone run (i + 1) 0 s j → value_at run values s j ≡ chosen_for run x c s j
    by_before s j l h (inl b) = by_node s j l h b (cases_lt (node_for run s j) i)
    by_before s j l h (inr (own, none)) = absurd (omega (arith, none))

-- no node
pub filled_none : (run : Run) (x : List ℤ) (c : Choice) (values : List ℤ) → AreWhole run values → AreFilled run x c 0 0 values
filled_none run x c values whole = record { whole = whole; each = λ s j l h. by_before s j }
  where
    by_before : (s j : ℕ) → IsDone run 0 0 s j → value_at run values s j ≡ chosen_for run x c s j
    by_before s j (inl none) = absurd (omega (arith, none))
    by_before s j (inr (own, none)) = absurd (omega (arith, none))

-- all nodes
filled_at : (run : Run) (x : List ℤ) (c : Choice) (n : ℕ) (values : List ℤ) → n ≡ length run.program.tree.nodes → AreFilled run x c n 0 values → (s j : ℕ) → s < scenarios run → j < run.nonleaf → value_at run values s j ≡ chosen_for run x c s j
filled_at run x c n values all are s j l h = are.each s j l h (inl (omega (arith, all, node_below run s j l h)))

pub filled_has : (run : Run) (x : List ℤ) (c : Choice) (n : ℕ) (made : Candidate) → n ≡ length run.program.tree.nodes → AreFilled run x c n 0 made.values → HasValues run (chosen_for run x c) made
filled_has run x c n made all are = record { whole = are.whole; each = filled_at run x c n made.values all are }

pub filled_agreed : (run : Run) (x : List ℤ) (c : Choice) (n : ℕ) (made : Candidate) → n ≡ length run.program.tree.nodes → AreFilled run x c n 0 made.values → AreAgreed run made.values
filled_agreed run x c n made all are s u j h share =
    let first = shares_there run s u (stage_of run j) share in
    let second = other_there run s u (stage_of run j) share in
    filled_at run x c n made.values all are s j first h
    ∙ ap (λ ns. chosen run x c ns j) (shared_bundle run s u j h share)
    ∙ sym (filled_at run x c n made.values all are u j second h)

pub filled_inside : (run : Run) (x : List ℤ) (c : Choice) (n : ℕ) (made : Candidate) → AreInside run x → n ≡ length run.program.tree.nodes → AreFilled run x c n 0 made.values → AreInside run made.values
filled_inside run x c n made inside all are = record {
  long = are.whole;
  lower = λ s j l h. subst (λ v. (side_at (sides run.program) j).lower ≤ℤ v) (sym (filled_at run x c n made.values all are s j l h)) (chosen_inside run x c (node_for run s j) j inside (node_below run s j l h) h).0;
  upper = λ s j l h. subst (λ v. v ≤ℤ (side_at (sides run.program) j).upper) (sym (filled_at run x c n made.values all are s j l h)) (chosen_inside run x c (node_for run s j) j inside (node_below run s j l h) h).1;
}
