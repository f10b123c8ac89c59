-- The columns behind the nonleaf ones are of the last stage, at which no two scenarios share a node.

use Rattle.std.proofs.Common.{arith, refl, sym, ap, subst, ◌∙◌, ◌≡◌, ℕ, zero, suc, ◌+◌, ◌-◌, ◌<◌, ◌≤◌, nat_lt, Bool, true, false, cond, List, [], ◌∷◌, length, get_or}
use Rattle.std.proofs.lemmas.List.{get_or_default}
use Rattle.std.proofs.lemmas.List.Sums.{sum_by-cons}
use Rattle.std.specs.List.{Contains, count_by}
use Rattle.base_words.proofs.NumberTests.{less_from_test, not_less_from_test, test_from_less}
use Rattle.tree_core.specs.Nodes.{Share}
use Rattle.tree_core.specs.declared.tree.Node.{Node}
use Rattle.sp_model.specs.Plans.{no_column, stage_of}
use Rattle.sp_model.specs.declared.program.Column.{Column}
use Rattle.sp_model.specs.declared.run.Run.{Run}

-- where the first j columns are before stage t, at least j count
count_many : (t : ℕ) (cs : List Column) (j : ℕ) → j ≤ length cs → ((k : ℕ) → k < j → nat_lt (get_or cs k no_column).stage t ≡ true) → j ≤ count_by (λ (c : Column). nat_lt c.stage t) cs
count_many t cs zero l h = omega arith
count_many t [] (suc j) l h = absurd (omega arith)
count_many t (c ∷ cs) (suc j) l h =
    let own : nat_lt c.stage t ≡ true = h 0 (omega arith) in
    let rest = count_many t cs j (omega arith) (λ k m. h (suc k) (omega arith)) in
    omega (arith, sum_by-cons (λ (d : Column). cond (nat_lt d.stage t) 1 0) c cs, ap (λ b. ones b) own, rest)
  where
    ones : Bool → ℕ
    ones b = cond b 1 0

-- an earlier column is of no later stage
earlier : (run : Run) (j k : ℕ) → k ≤ j → j < length run.program.columns → stage_of run k ≤ stage_of run j
earlier run j k l m = by_place (nat_lt k j) refl
  where
    by_place : (b : Bool) → nat_lt k j ≡ b → stage_of run k ≤ stage_of run j
    by_place true p = run.facts.stages.rising k j no_column (less_from_test k j p) m
    by_place false p =
        let over = not_less_from_test k j p in
        let same : k ≡ j = omega arith in
        omega (arith, ap (λ i. stage_of run i) same)

pub late_stage : (run : Run) (j : ℕ) → run.nonleaf ≤ j → j < length run.program.columns → stage_of run j ≡ run.program.tree.stages
late_stage run j h l = by_test (nat_lt (stage_of run j) run.program.tree.stages) refl
  where
    stages : ℕ
    stages = run.program.tree.stages

    by_test : (b : Bool) → nat_lt (stage_of run j) run.program.tree.stages ≡ b → stage_of run j ≡ run.program.tree.stages
    by_test false e =
        let late = (run.facts.stages.columns j no_column l).late in
        omega (arith, not_less_from_test (stage_of run j) run.program.tree.stages e, late)
    by_test true e =
        let early = less_from_test (stage_of run j) run.program.tree.stages e in
        let many = count_many run.program.tree.stages run.program.columns (j + 1) (omega arith) (λ k m. test_from_less (stage_of run k) run.program.tree.stages (omega (arith, earlier run j k (omega arith) l, early))) in
        absurd (omega (arith, many, h, run.facts.stages.nonleaf_is))

-- a list of one item has no two
one_item : (xs : List ℕ) (a b : ℕ) → length xs ≡ 1 → Contains xs a → Contains xs b → a ≡ b
one_item xs a b one (i, l, e) (k, m, f) =
    let first : i ≡ k = omega arith in
    sym e ∙ (get_or_default xs i a b l ∙ (ap (λ n. get_or xs n b) first ∙ f))

-- scenarios that share a node of the last stage are one
pub leaf_alone : (run : Run) (s u : ℕ) → Share run.program.tree.nodes s u run.program.tree.stages → s ≡ u
leaf_alone run s u (i, n, node, is, (stage, has, other)) =
    let one = run.facts.tree.leaves i n node in
    let at : length n.scenarios ≡ 1 = subst (λ (m : Node). m.stage ≡ run.program.tree.stages → length m.scenarios ≡ 1) is one stage in
    one_item n.scenarios s u at has other

-- scenarios of a node are there
pub shares_there : (run : Run) (s u t : ℕ) → Share run.program.tree.nodes s u t → s < length run.program.scenarios
shares_there run s u t (i, n, node, is, (stage, has, other)) =
    let there = (run.facts.tree.nodes i n node).there in
    let at = subst (λ (m : Node). (k d : ℕ) → k < length m.scenarios → get_or m.scenarios k d < length run.program.scenarios) is there in
    let own = at has.0 s has.1 in
    omega (arith, own, has.2)

pub other_there : (run : Run) (s u t : ℕ) → Share run.program.tree.nodes s u t → u < length run.program.scenarios
other_there run s u t (i, n, node, is, (stage, has, other)) = shares_there run u s t (i, n, node, is, (stage, other, has))
