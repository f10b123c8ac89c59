-- Where no multiplier is too big all are sized; where no node is out of balance all are balanced.

use Rattle.std.proofs.Common.{refl, sym, ap, ◌∙◌, ◌≡◌, ℕ, ◌≤◌, nat_lt, ◌&&◌, not, Bool, true, false, length, get_or, ℤ, pos, unsigned_abs, Some, None, if◌then◌else◌}
use Rattle.std.proofs.lemmas.Bool.Decides.{Decides-int_eq}
use Rattle.std.proofs.lemmas.List.{get_or_default}
use Rattle.std.specs.Bool.{Decides}
use Rattle.std.specs.Ordering.{int_eq}
use Rattle.base_words.specs.ListSums.{sum_z}
use Rattle.tree_core.specs.Nodes.{no_node}
use Rattle.tree_core.specs.declared.tree.Node.{Node}
use Rattle.run_calls.specs.declared.multiplying.Unbalanced.{Unbalanced}
use Rattle.run_calls.specs.MultiplierTests.{AreSized, balance_fault, balance_of, is_of_stage, most_at, node_at, size_fault, too_big, too_big_at, too_big_in, unbalanced, unbalanced_at, unbalanced_in}
use Rattle.sp_model.specs.Plans.{AreBalanced, multiplier_of, stage_of}
use Rattle.sp_model.specs.Problems.{scenarios}
use Rattle.sp_model.specs.declared.plan.Multipliers.{Multipliers}
use Rattle.sp_model.specs.declared.run.Run.{Run}
use Rattle.base_words.proofs.NumberTests.{not_less_from_test, test_from_same}
use Rattle.run_calls.proofs.NumberedAnswers.{number_each}

pub none_too_big : (run : Run) (multipliers : Multipliers) → too_big run multipliers ≡ None → AreSized run multipliers
none_too_big run multipliers e s j l h = by_test (nat_lt (most_at run j) (unsigned_abs (multiplier_of run multipliers s j))) refl own
  where
    row : too_big_in run multipliers s ≡ None
    row = number_each (too_big_in run multipliers) (scenarios run) s e l

    own : too_big_at run multipliers s j ≡ None
    own = number_each (too_big_at run multipliers s) run.nonleaf j row h

    by_test : (b : Bool) → nat_lt (most_at run j) (unsigned_abs (multiplier_of run multipliers s j)) ≡ b → (if b then Some (size_fault run multipliers s j) else None) ≡ None → unsigned_abs (multiplier_of run multipliers s j) ≤ most_at run j
    by_test true p d = absurd (let x = d in cc)
    by_test false p d = not_less_from_test (most_at run j) (unsigned_abs (multiplier_of run multipliers s j)) p

pub none_unbalanced : (run : Run) (multipliers : Multipliers) → unbalanced run multipliers ≡ None → AreBalanced run multipliers
none_unbalanced run multipliers e i d l j h of_stage =
    let same_node : get_or run.program.tree.nodes i d ≡ node_at run i = get_or_default run.program.tree.nodes i d no_node l in
    let row : unbalanced_in run multipliers i ≡ None = number_each (unbalanced_in run multipliers) (length run.program.tree.nodes) i e l in
    let own : unbalanced_at run multipliers i j ≡ None = number_each (unbalanced_at run multipliers i) run.nonleaf j row h in
    let at : is_of_stage run i j ≡ true = test_from_same (stage_of run j) (node_at run i).stage (of_stage ∙ ap (λ (n : Node). n.stage) same_node) in
    let zero : balance_of run multipliers i j ≡ pos 0 = by_test (is_of_stage run i j) at (int_eq (balance_of run multipliers i j) (pos 0)) (Decides-int_eq (balance_of run multipliers i j) (pos 0)) own in
    ap (λ (n : Node). sum_z (λ s. multiplier_of run multipliers s j) n.scenarios) same_node ∙ zero
  where
    by_test : (b : Bool) → b ≡ true → (t : Bool) → Decides t (balance_of run multipliers i j ≡ pos 0) → (if b && not t then Some (balance_fault run multipliers i j) else None) ≡ None → balance_of run multipliers i j ≡ pos 0
    by_test false p t q r = absurd (let x = p in cc)
    by_test true p true q r = q.0 refl
    by_test true p false q r = absurd (let x = r in cc)

-- a node and a column with some sum
abbrev fault_of : ℕ → ℕ → ℤ → Unbalanced
fault_of i j sum = record { node = i; column = j; sum = sum }

pub fault_is : (run : Run) (multipliers : Multipliers) (i j : ℕ) (sum : ℤ) → sum ≡ balance_of run multipliers i j → (is_of_stage run i j && not (int_eq sum (pos 0))) ≡ true → Some (fault_of i j sum) ≡ unbalanced_at run multipliers i j
fault_is run multipliers i j sum e t =
    ap (λ z. Some (fault_of i j z)) e
    ∙ sym (ap (λ b. if b then Some (balance_fault run multipliers i j) else None) (ap (λ z. is_of_stage run i j && not (int_eq z (pos 0))) (sym e) ∙ t))

pub no_fault : (run : Run) (multipliers : Multipliers) (i j : ℕ) (sum : ℤ) → sum ≡ balance_of run multipliers i j → (is_of_stage run i j && not (int_eq sum (pos 0))) ≡ false → None ≡ unbalanced_at run multipliers i j
no_fault run multipliers i j sum e t =
    sym (ap (λ b. if b then Some (balance_fault run multipliers i j) else None) (ap (λ z. is_of_stage run i j && not (int_eq z (pos 0))) (sym e) ∙ t))
