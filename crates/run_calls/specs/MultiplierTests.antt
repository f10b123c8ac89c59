-- Multipliers that are small enough, and the first one that isn't; the first node and column where
-- multipliers don't sum to 0.

use Rattle.std.specs.Prelude.{◌≡◌, ℕ, ◌*◌, ◌<◌, ◌≤◌, ◌==◌, ◌&&◌, nat_lt, Bool, not, List, length, slice_index_or, ℤ, pos, unsigned_abs, Option, Some, None, if◌then◌else◌}
use Rattle.std.specs.List.{All, AllPairs, range_with_len}
use Rattle.std.specs.Ordering.{int_eq}
use Rattle.base_words.specs.FirstAnswers.{first_some}
use Rattle.base_words.specs.ListSums.{sum_z}
use Rattle.tree_core.specs.Nodes.{no_node, scenarios_at}
use Rattle.tree_core.specs.declared.tree.Node.{Node}
use Rattle.sp_model.specs.Plans.{multiplier_of, stage_of}
use Rattle.sp_model.specs.Problems.{scenarios}
use Rattle.sp_model.specs.Reaching.{most_of}
use Rattle.run_calls.specs.declared.multiplying.TooBig.{TooBig}
use Rattle.run_calls.specs.declared.multiplying.Unbalanced.{Unbalanced}
use Rattle.sp_model.specs.declared.plan.Multipliers.{Multipliers}
use Rattle.sp_model.specs.declared.run.Run.{Run}

-- the greatest magnitude that a multiplier of column j may have
abbrev pub most_at : Run → ℕ → ℕ
most_at run j = most_of run.program run.options run.total j

-- scenarios of the run, in ascending order
pub record AreMembers (run : Run) (members : List ℕ) : Type 0 where
  pub there : All (λ s. s < scenarios run) members
  pub ascending : AllPairs (λ s u. s < u) members

-- a multiplier for each scenario and nonleaf column
abbrev pub AreLong : Run → Multipliers → Type 0
AreLong run multipliers = length multipliers.values ≡ scenarios run * run.nonleaf

-- sized multipliers: none has a greater magnitude than its column allows
abbrev pub AreSized : Run → Multipliers → Type 0
AreSized run multipliers = (s j : ℕ) → s < scenarios run → j < run.nonleaf
    → unsigned_abs (multiplier_of run multipliers s j) ≤ most_at run j

-- the multiplier of scenario s and column j beside the greatest magnitude of its column
abbrev pub size_fault : Run → Multipliers → ℕ → ℕ → TooBig
size_fault run multipliers s j = record {
  scenario = s;
  column = j;
  value = multiplier_of run multipliers s j;
  most = pos (most_at run j);
}

-- this, where the multiplier is too big
abbrev pub too_big_at : Run → Multipliers → ℕ → ℕ → Option TooBig
too_big_at run multipliers s j = if nat_lt (most_at run j)
    (unsigned_abs (multiplier_of run multipliers s j)) then Some (size_fault run multipliers s j)
    else None

-- the first one of scenario s
abbrev pub too_big_in : Run → Multipliers → ℕ → Option TooBig
too_big_in run multipliers s =
    first_some (too_big_at run multipliers s) (range_with_len 0 run.nonleaf)

-- the first one of all, scenario after scenario
abbrev pub too_big : Run → Multipliers → Option TooBig
too_big run multipliers = first_some (too_big_in run multipliers) (range_with_len 0 (scenarios run))

-- the sum of the multipliers of node i in column j
abbrev pub balance_of : Run → Multipliers → ℕ → ℕ → ℤ
balance_of run multipliers i j =
    sum_z (λ s. multiplier_of run multipliers s j) (scenarios_at run.program.tree.nodes i)

-- node i
abbrev pub node_at : Run → ℕ → Node
node_at run i = slice_index_or run.program.tree.nodes i no_node

-- whether column j is of the stage of node i
abbrev pub is_of_stage : Run → ℕ → ℕ → Bool
is_of_stage run i j = stage_of run j == (node_at run i).stage

-- node i and column j with the sum of their multipliers
abbrev pub balance_fault : Run → Multipliers → ℕ → ℕ → Unbalanced
balance_fault run multipliers i j = record {
  node = i;
  column = j;
  sum = balance_of run multipliers i j;
}

-- this, where the column is of the node's stage and the sum isn't 0
abbrev pub unbalanced_at : Run → Multipliers → ℕ → ℕ → Option Unbalanced
unbalanced_at run multipliers i j = if is_of_stage run i j
    && not (int_eq (balance_of run multipliers i j) (pos 0))
    then Some (balance_fault run multipliers i j) else None

-- the first column of node i
abbrev pub unbalanced_in : Run → Multipliers → ℕ → Option Unbalanced
unbalanced_in run multipliers i =
    first_some (unbalanced_at run multipliers i) (range_with_len 0 run.nonleaf)

-- the first node and column of all
abbrev pub unbalanced : Run → Multipliers → Option Unbalanced
unbalanced run multipliers =
    first_some (unbalanced_in run multipliers) (range_with_len 0 (length run.program.tree.nodes))
