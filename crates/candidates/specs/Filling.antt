-- Values that are filled in node after node, and in a node column after column.

use Rattle.std.specs.Prelude.{◌≡◌, ◌⊎◌, ℕ, ◌<◌, List, length, ℤ, slice_index}
use Rattle.put_words.specs.NodeSums.{node_for, value_at}
use Rattle.sp_model.specs.Problems.{scenarios}
use Rattle.sp_model.specs.declared.run.Run.{Run}
use Rattle.candidates.specs.Choices.{chosen_for}
use Rattle.agreement.specs.Agreeing.{AreWhole}
use Rattle.candidates.specs.declared.choosing.Choice.{Choice}

-- the first k of some scenarios have a value in column j now, and all other values are as before
pub record IsPut (run : Run) (old : List ℤ) (members : List ℕ) (k column : ℕ) (value : ℤ)
    (new : List ℤ) : Type 0 where
  pub long : length new ≡ length old
  pub put : (i : ℕ) → i < k → value_at run new (slice_index members i) column ≡ value
  pub kept : (s j : ℕ) → j < run.nonleaf
      → ((i : ℕ) → i < k → slice_index members i ≡ s → j ≡ column → ⊥)
      → value_at run new s j ≡ value_at run old s j

-- the place of scenario s and column j is filled, where the nodes before i are, and in node i the
-- columns before n
abbrev pub IsDone : Run → ℕ → ℕ → ℕ → ℕ → Type 0
IsDone run i n s j = (node_for run s j < i) ⊎ ((node_for run s j ≡ i) × (j < n))

-- these places have their values
pub record AreFilled (run : Run) (x : List ℤ) (c : Choice) (i n : ℕ)
    (values : List ℤ) : Type 0 where
  pub whole : AreWhole run values
  pub each : (s j : ℕ) → s < scenarios run → j < run.nonleaf → IsDone run i n s j
      → value_at run values s j ≡ chosen_for run x c s j
