-- The node of a scenario at a stage is the only one there that has it.

use Rattle.std.proofs.Common.{arith, refl, sym, ap, ◌≡◌, ℕ, zero, suc, ◌<◌, ◌==◌, ◌||◌, Bool, true, false, List, [], ◌∷◌, length, get_or}
use Rattle.std.proofs.lemmas.Bool.{and_from}
use Rattle.std.proofs.lemmas.List.Elements.{All-contains}
use Rattle.std.specs.List.{All, Contains, list_any}
use Rattle.base_words.proofs.NumberTests.{test_from_same}
use Rattle.tree_core.specs.Nodes.{holds, no_node, scenarios_at, StandsOnce}
use Rattle.tree_core.proofs.OncePlaces.{once_place}
use Rattle.run_calls.specs.MultiplierTests.{node_at}
use Rattle.sp_model.specs.Plans.{no_column, stage_of}
use Rattle.sp_model.specs.Problems.{scenarios}
use Rattle.sp_model.specs.declared.run.Run.{Run}
use Rattle.run_calls.proofs.MostBounds.{early_column}
use Rattle.put_words.specs.NodeSums.{bundle, node_for}

-- a member is found
pub found : (xs : List ℕ) (s k d : ℕ) → k < length xs → get_or xs k d ≡ s → list_any (λ u. u == s) xs ≡ true
found [] s k d l e = absurd (omega arith)
found (x ∷ xs) s zero d l e = ap (λ b. b || list_any (λ u. u == s) xs) (test_from_same x s e)
found (x ∷ xs) s (suc k) d l e = by_first (x == s) (found xs s k d (omega arith) e)
  where
    by_first : (b : Bool) → list_any (λ u. u == s) xs ≡ true → (b || list_any (λ u. u == s) xs) ≡ true
    by_first true r = refl
    by_first false r = r

-- a scenario of a run stands once at the stage of a column
pub stands : (run : Run) (s j : ℕ) → s < scenarios run → j < run.nonleaf → StandsOnce run.program.tree.nodes (stage_of run j) s
stands run s j l h =
    let column = run.facts.stages.columns j no_column (early_column run j h) in
    run.facts.tree.once (stage_of run j) s column.early column.late l

-- the scenarios of a node are those of the run
member_below : (run : Run) (i : ℕ) → i < length run.program.tree.nodes → All (λ s. s < scenarios run) (scenarios_at run.program.tree.nodes i)
member_below run i l = (run.facts.tree.nodes i no_node l).there

-- a scenario that stands in a node of the column's stage has this node's scenarios as its bundle
pub node_is : (run : Run) (i s j : ℕ) → i < length run.program.tree.nodes → j < run.nonleaf → stage_of run j ≡ (node_at run i).stage → Contains (scenarios_at run.program.tree.nodes i) s → node_for run s j ≡ i
node_is run i s j l h e at =
    let nodes = run.program.tree.nodes in
    let below = All-contains (λ u. u < scenarios run) (scenarios_at nodes i) s (member_below run i l) at in
    let own = found (scenarios_at nodes i) s at.0 s at.1 at.2 in
    let here : holds s (stage_of run j) (get_or nodes i no_node) ≡ true = and_from ((node_at run i).stage == stage_of run j) (list_any (λ u. u == s) (scenarios_at nodes i)) (test_from_same (node_at run i).stage (stage_of run j) (sym e)) own in
    once_place nodes (stage_of run j) s i no_node (stands run s j below h) l here

pub bundle_is : (run : Run) (i s j : ℕ) → i < length run.program.tree.nodes → j < run.nonleaf → stage_of run j ≡ (node_at run i).stage → Contains (scenarios_at run.program.tree.nodes i) s → bundle run s j ≡ scenarios_at run.program.tree.nodes i
bundle_is run i s j l h e at = ap (λ k. scenarios_at run.program.tree.nodes k) (node_is run i s j l h e at)
