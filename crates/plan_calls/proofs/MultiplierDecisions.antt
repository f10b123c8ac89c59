-- Where multipliers are sized none is too big, and where they are balanced no node is out of balance.

use Rattle.std.proofs.Common.{refl, sym, ap, ◌∙◌, ◌≡◌, ℕ, ◌≤◌, nat_lt, ◌&&◌, not, Bool, true, false, length, get_or, pos, unsigned_abs, Some, None, if◌then◌else◌}
use Rattle.std.proofs.lemmas.Bool.Decides.{Decides-int_eq}
use Rattle.std.proofs.lemmas.List.{get_or_default}
use Rattle.std.specs.Bool.{Decides}
use Rattle.std.specs.Ordering.{int_eq}
use Rattle.base_words.proofs.NumberTests.{same_from_test, test_from_not_less}
use Rattle.base_words.specs.ListSums.{sum_z}
use Rattle.run_calls.specs.MultiplierTests.{AreSized, balance_fault, balance_of, is_of_stage, most_at, node_at, size_fault, too_big, too_big_at, too_big_in, unbalanced, unbalanced_at, unbalanced_in}
use Rattle.sp_model.specs.Plans.{AreBalanced, multiplier_of, stage_of}
use Rattle.sp_model.specs.Problems.{scenarios}
use Rattle.sp_model.specs.declared.plan.Multipliers.{Multipliers}
use Rattle.sp_model.specs.declared.run.Run.{Run}
use Rattle.tree_core.specs.Nodes.{no_node}
use Rattle.tree_core.specs.declared.tree.Node.{Node}
use Rattle.plan_calls.proofs.PlanFailures.{none_below}

small_silent : {B : Type 0} (most size : ℕ) (b : B) → size ≤ most → (if nat_lt most size then Some b else None) ≡ None
small_silent most size b small = ap (λ t. if t then Some b else None) (test_from_not_less most size small)

pub sized_none : (run : Run) (multipliers : Multipliers) → AreSized run multipliers → too_big run multipliers ≡ None
sized_none run multipliers sized =
    none_below (too_big_in run multipliers) (scenarios run) (λ s l. none_below (too_big_at run multipliers s) run.nonleaf (λ j h. small_silent (most_at run j) (unsigned_abs (multiplier_of run multipliers s j)) (size_fault run multipliers s j) (sized s j l h)))

zero_silent : {B Z : Type 0} (b t : Bool) (f : B) → (b ≡ true → Z) → Decides t Z → (if b && not t then Some f else None) ≡ None
zero_silent false t f zero decides = refl
zero_silent true true f zero decides = refl
zero_silent true false f zero decides = absurd (let x = decides.1 (zero refl) in cc)

pub balanced_none : (run : Run) (multipliers : Multipliers) → AreBalanced run multipliers → unbalanced run multipliers ≡ None
balanced_none run multipliers balanced =
    none_below (unbalanced_in run multipliers) (length run.program.tree.nodes) (λ i l. none_below (unbalanced_at run multipliers i) run.nonleaf (λ j h.
    zero_silent (is_of_stage run i j) (int_eq (balance_of run multipliers i j) (pos 0)) (balance_fault run multipliers i j) (λ t.
    let same : get_or run.program.tree.nodes i no_node ≡ node_at run i = get_or_default run.program.tree.nodes i no_node no_node l in
    let stage : stage_of run j ≡ (get_or run.program.tree.nodes i no_node).stage = same_from_test (stage_of run j) (node_at run i).stage t ∙ sym (ap (λ (n : Node). n.stage) same) in
    sym (ap (λ (n : Node). sum_z (λ s. multiplier_of run multipliers s j) n.scenarios) same) ∙ balanced i no_node l j h stage)
    (Decides-int_eq (balance_of run multipliers i j) (pos 0))))
