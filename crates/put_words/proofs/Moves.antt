-- The moves of a node's scenarios sum to 0, so balanced multipliers stay balanced.

use Rattle.std.proofs.Common.{arith, refl, sym, ap, ◌∙◌, ◌≡◌, ℕ, zero, suc, ◌+◌, ◌*◌, ◌-◌, ◌<◌, ◌==◌, nat_lt, Bool, true, false, List, [], ◌∷◌, ◌++◌, length, replicate, get_or, ℤ, pos, neg_ℤ, ◌+ℤ◌, if◌then◌else◌}
use Rattle.std.proofs.lemmas.Int.{ints}
use Rattle.std.proofs.lemmas.List.{get_or_default, get_or-take, length-take, take_all, take_more}
use Rattle.std.proofs.lemmas.List.Elements.{Contains-get_or, recursion_from_All}
use Rattle.std.specs.List.{AllPairs}
use Rattle.base_words.specs.ListSums.{sum_z}
use Rattle.base_words.specs.Sums.{number_at}
use Rattle.base_words.proofs.ListSums.{sum_z-add, sum_z-push, sum_z-same, sum_z-zero}
use Rattle.tree_core.specs.Nodes.{no_node, scenarios_at}
use Rattle.tree_core.specs.declared.tree.Node.{Node}
use Rattle.run_calls.specs.MultiplierTests.{node_at}
use Rattle.sp_model.specs.Plans.{AreBalanced, multiplier_of, stage_of}
use Rattle.sp_model.specs.Problems.{scenarios}
use Rattle.sp_model.specs.declared.plan.Multipliers.{Multipliers}
use Rattle.sp_model.specs.declared.run.Run.{Run}
use Rattle.base_words.proofs.NumberTests.{test_from_less, test_from_same}
use Rattle.put_words.specs.NextMultipliers.{front_of, last_of, move_in, moved, next_of, no_multipliers, rise}
use Rattle.put_words.proofs.Bundles.{bundle_is}
use Rattle.put_words.proofs.Cells.{cell_at}

-- a list that isn't empty is its front and its last item
front_and_last : (ns : List ℕ) → 0 < length ns → ns ≡ front_of ns ++ last_of ns ∷ []
front_and_last ns l =
    let whole : length ns - 1 + 1 ≡ length ns = omega arith in
    sym (take_all (length ns - 1 + 1) ns (omega arith)) ∙ take_more ns (length ns - 1) 0 (omega arith)

-- an item of the front isn't the last item
front_apart : (ns : List ℕ) (k d : ℕ) → AllPairs (λ a b. a < b) ns → k < length (front_of ns) → (get_or (front_of ns) k d == last_of ns) ≡ false
front_apart ns k d ascending h =
    let long = length-take (length ns - 1) ns in
    let early : k < length ns - 1 = omega arith in
    let below = ascending k (length ns - 1) d early (omega arith) in
    let at = get_or-take (length ns - 1) ns k d early in
    let last = get_or_default ns (length ns - 1) d 0 (omega arith) in
    differ (get_or (front_of ns) k d) (last_of ns) (omega (arith, at, last, below))
  where
    differ : (a b : ℕ) → a < b → (a == b) ≡ false
    differ a b l = grind arith

moves_zero : (run : Run) (x : List ℤ) (ns : List ℕ) (j : ℕ) → 0 < length ns → AllPairs (λ a b. a < b) ns → sum_z (move_in run x ns j) ns ≡ pos 0
moves_zero run x ns j l ascending =
    let front = front_of ns in
    let last = last_of ns in
    let f : ℕ → ℤ = move_in run x ns j in
    let g : ℕ → ℤ = rise run x ns j in
    let own : f last ≡ neg_ℤ (sum_z g front) = ap (λ b. if b then neg_ℤ (sum_z g front) else g last) (test_from_same last last refl) in
    let others = sum_z-same f g front (recursion_from_All (λ s. f s ≡ g s) front (λ k d h. ap (λ b. if b then neg_ℤ (sum_z g front) else g (get_or front k d)) (front_apart ns k d ascending h))) in
    let whole = ap (sum_z f) (front_and_last ns l) ∙ sum_z-push f front last in
    omega (arith, ints, whole, others, own)

-- the next multiplier of a scenario and a nonleaf column
pub next_at : (run : Run) (multipliers : Multipliers) (x : List ℤ) (s j : ℕ) → s < scenarios run → j < run.nonleaf → multiplier_of run (next_of run multipliers x) s j ≡ moved run multipliers x s j
unfolding next_of
next_at run multipliers x s j l h =
    ap (λ b. if b then number_at (next_of run multipliers x).values (s * run.nonleaf + j) else pos 0) (test_from_less j run.nonleaf h)
    ∙ cell_at (scenarios run) run.nonleaf (moved run multipliers x) s j (pos 0) l h

pub next_balanced : (run : Run) (multipliers : Multipliers) (x : List ℤ) → AreBalanced run multipliers → AreBalanced run (next_of run multipliers x)
next_balanced run multipliers x balanced i d l j h e =
    let nodes = run.program.tree.nodes in
    let same_node : get_or nodes i d ≡ node_at run i = get_or_default nodes i d no_node l in
    let ns = scenarios_at nodes i in
    let fact = run.facts.tree.nodes i no_node l in
    let of_stage : stage_of run j ≡ (node_at run i).stage = e ∙ ap (λ (n : Node). n.stage) same_node in
    let old : ℕ → ℤ = λ s. multiplier_of run multipliers s j in
    let new : ℕ → ℤ = λ s. multiplier_of run (next_of run multipliers x) s j in
    let each = recursion_from_All (λ s. new s ≡ old s +ℤ move_in run x ns j s) ns (λ k e2 k_below.
    let s = get_or ns k e2 in
    let there = fact.there k e2 k_below in
    next_at run multipliers x s j there h ∙ ap (λ members. old s +ℤ move_in run x members j s) (bundle_is run i s j l h of_stage (Contains-get_or ns k e2 k_below))) in
    let before : sum_z old ns ≡ pos 0 = balanced i no_node l j h of_stage in
    let total : sum_z new ns ≡ pos 0 = omega (arith, ints, sum_z-same new (λ s. old s +ℤ move_in run x ns j s) ns each, sum_z-add old (move_in run x ns j) ns, before, moves_zero run x ns j fact.filled fact.ascending) in
    ap (λ (n : Node). sum_z new n.scenarios) same_node ∙ total

-- multipliers of 0
pub zero_at : (n i : ℕ) → number_at (replicate n (pos 0)) i ≡ pos 0
zero_at zero i = refl
zero_at (suc n) zero = refl
zero_at (suc n) (suc i) = zero_at n i

pub nothing_at : (run : Run) (s j : ℕ) → multiplier_of run (no_multipliers run) s j ≡ pos 0
nothing_at run s j = by_test (nat_lt j run.nonleaf)
  where
    by_test : (b : Bool) → (if b then number_at (no_multipliers run).values (s * run.nonleaf + j) else pos 0) ≡ pos 0
    by_test true = zero_at (scenarios run * run.nonleaf) (s * run.nonleaf + j)
    by_test false = refl

pub nothing_balanced : (run : Run) → AreBalanced run (no_multipliers run)
nothing_balanced run i d l j h e =
    let ns = (get_or run.program.tree.nodes i d).scenarios in
    sum_z-same (λ s. multiplier_of run (no_multipliers run) s j) (λ s. pos 0) ns (recursion_from_All (λ s. multiplier_of run (no_multipliers run) s j ≡ pos 0) ns (λ k e2 m. nothing_at run (get_or ns k e2) j)) ∙ sum_z-zero ns
