-- Tables with a number for each scenario and nonleaf column, scenario after scenario: the pulls and
-- the multipliers of a put, as they are filled node after node.

use Rattle.std.specs.Prelude.{◌≡◌, ℕ, ◌*◌, ◌<◌, ◌≤◌, Bool, List, length, ℤ, pos, ◌+ℤ◌, unsigned_abs, if◌then◌else◌}
use Rattle.tree_core.specs.Nodes.{scenarios_at}
use Rattle.run_calls.specs.MultiplierTests.{AreLong, AreSized}
use Rattle.sp_model.specs.Problems.{scenarios}
use Rattle.sp_model.specs.declared.plan.Multipliers.{Multipliers}
use Rattle.sp_model.specs.declared.run.Run.{Run}
use Rattle.put_words.specs.Hedged.{pull}
use Rattle.put_words.specs.NextMultipliers.{move_in}
use Rattle.put_words.specs.NodeSums.{AreInside, bundle, sum_of, value_at, weight_of}
use Rattle.hedging.specs.declared.sums.Sums.{Sums}
use Rattle.hedging.specs.declared.tables.Gain.{Gain}
use Rattle.hedging.specs.declared.tables.Gain.TheVariants as kind

-- the weight of node n, and its weighted sum in column j
pub record AreSums (run : Run) (x : List ℤ) (n j : ℕ) (sums : Sums) : Type 0 where
  pub weight : sums.weight ≡ weight_of run (scenarios_at run.program.tree.nodes n)
  pub sum : sums.sum ≡ sum_of run x (scenarios_at run.program.tree.nodes n) j

-- what the cell of scenario s and column j gains: its pull, or the move of its multiplier
abbrev pub gain_of : Run → List ℤ → Gain → ℕ → ℕ → ℤ
gain_of run x kind.Pull s j = pull run x s j
gain_of run x kind.Move s j = move_in run x (bundle run s j) j s

-- a table in which no number has a greater magnitude than this
pub record IsTable (run : Run) (most : ℕ) (cells : List ℤ) : Type 0 where
  pub long : length cells ≡ scenarios run * run.nonleaf
  pub small : (s j : ℕ) → s < scenarios run → j < run.nonleaf
      → unsigned_abs (value_at run cells s j) ≤ most

-- each cell gained where that was due, and stayed where it wasn't
pub record HaveGained (run : Run) (due : ℕ → ℕ → Bool) (gain : ℕ → ℕ → ℤ)
    (old new : List ℤ) : Type 0 where
  pub long : length new ≡ length old
  pub cells : (s j : ℕ) → s < scenarios run → j < run.nonleaf
      → value_at run new s j ≡ value_at run old s j +ℤ (if due s j then gain s j else pos 0)

-- the pulls of all scenarios at some values
pub record ArePulls (run : Run) (x pulls : List ℤ) : Type 0 where
  pub long : length pulls ≡ scenarios run * run.nonleaf
  pub each : (s j : ℕ) → s < scenarios run → j < run.nonleaf
      → value_at run pulls s j ≡ pull run x s j

-- what hedged problems are made of: multipliers of the run that are small enough, values in the
-- boxes of their columns, and the pulls at these
pub record IsReady (run : Run) (multipliers : Multipliers) (x pulls : List ℤ) : Type 0 where
  pub long : AreLong run multipliers
  pub sized : AreSized run multipliers
  pub inside : AreInside run x
  pub pulled : ArePulls run x pulls
