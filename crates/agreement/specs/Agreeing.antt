-- Whether the values of a put agree: scenarios that can't yet be told apart have the same ones.

use Rattle.std.specs.Prelude.{◌≡◌, ℕ, ◌*◌, ◌<◌, List, length, ℤ}
use Rattle.std.specs.List.{All}
use Rattle.tree_core.specs.Nodes.{Share, first_of}
use Rattle.sp_model.specs.Plans.{stage_of}
use Rattle.sp_model.specs.Problems.{scenarios}
use Rattle.sp_model.specs.declared.run.Run.{Run}
use Rattle.put_words.specs.NodeSums.{value_at}
use Rattle.run_calls.specs.MultiplierTests.{node_at}

-- a value for each scenario and nonleaf column
abbrev pub AreWhole : Run → List ℤ → Type 0
AreWhole run x = length x ≡ scenarios run * run.nonleaf

-- values agree: scenarios that share a node of a nonleaf column's stage have the same value there
abbrev pub AreAgreed : Run → List ℤ → Type 0
AreAgreed run x = (s u j : ℕ) → j < run.nonleaf → Share run.program.tree.nodes s u (stage_of run j)
    → value_at run x s j ≡ value_at run x u j

-- the scenarios of node i have the value of its first one in column j
abbrev pub AreOne : Run → List ℤ → ℕ → ℕ → Type 0
AreOne run x i j = All (λ s. value_at run x s j ≡ value_at run x (first_of (node_at run i)) j)
    (node_at run i).scenarios

-- if the column is of the node's stage
abbrev pub IsOneIn : Run → List ℤ → ℕ → ℕ → Type 0
IsOneIn run x i j = stage_of run j ≡ (node_at run i).stage → AreOne run x i j

-- in each such column before n
abbrev pub AreOneBelow : Run → List ℤ → ℕ → ℕ → Type 0
AreOneBelow run x i n = (j : ℕ) → j < n → IsOneIn run x i j
