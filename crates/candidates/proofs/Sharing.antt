-- Scenarios that share a node of a column's stage have the same bundle there; the node of a scenario.

use Rattle.std.proofs.Common.{sym, ap, subst, ◌∙◌, ◌≡◌, ℕ, ◌<◌, true}
use Rattle.std.proofs.lemmas.List.{get_or_default}
use Rattle.std.specs.List.{Contains}
use Rattle.tree_core.specs.Nodes.{holds, no_node, Share}
use Rattle.tree_core.specs.declared.tree.Node.{Node}
use Rattle.tree_core.proofs.Finding.{held_in, held_stage}
use Rattle.tree_core.proofs.Listing.{place_passes}
use Rattle.run_calls.specs.MultiplierTests.{node_at}
use Rattle.sp_model.specs.Plans.{stage_of}
use Rattle.sp_model.specs.Problems.{scenarios}
use Rattle.sp_model.specs.declared.run.Run.{Run}
use Rattle.put_words.specs.NodeSums.{bundle, node_for}
use Rattle.put_words.proofs.Bundles.{bundle_is}
use Rattle.put_words.proofs.Rises.{node_below}

-- scenarios that share a node have the same bundle
pub shared_bundle : (run : Run) (s u j : ℕ) → j < run.nonleaf → Share run.program.tree.nodes s u (stage_of run j) → bundle run s j ≡ bundle run u j
shared_bundle run s u j h (i, n, node, is, (stage, has, other)) =
    let nodes = run.program.tree.nodes in
    let at : n ≡ node_at run i = sym is ∙ get_or_default nodes i n no_node node in
    let P : Node → Type 0 = λ m. Contains m.scenarios s in
    let Q : Node → Type 0 = λ m. Contains m.scenarios u in
    let same_stage : stage_of run j ≡ (node_at run i).stage = sym stage ∙ ap (λ (m : Node). m.stage) at in
    bundle_is run i s j node h same_stage (subst P at has) ∙ sym (bundle_is run i u j node h same_stage (subst Q at other))

-- the node of a scenario is of the column's stage, and has the scenario
own_holds : (run : Run) (s j : ℕ) → s < scenarios run → j < run.nonleaf → holds s (stage_of run j) (node_at run (node_for run s j)) ≡ true
own_holds run s j l h = place_passes (holds s (stage_of run j)) run.program.tree.nodes no_node (node_below run s j l h)

pub own_stage : (run : Run) (s j : ℕ) → s < scenarios run → j < run.nonleaf → (node_at run (node_for run s j)).stage ≡ stage_of run j
own_stage run s j l h = held_stage (node_at run (node_for run s j)) s (stage_of run j) (own_holds run s j l h)

pub own_in : (run : Run) (s j : ℕ) → s < scenarios run → j < run.nonleaf → Contains (node_at run (node_for run s j)).scenarios s
own_in run s j l h = held_in (node_at run (node_for run s j)) s (stage_of run j) (own_holds run s j l h)
