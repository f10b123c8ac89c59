-- A candidate of a run: values of the nonleaf columns for each scenario.

use Rattle.std.specs.Prelude.{◌≡◌, ℕ, ◌<◌, ℤ}
use Rattle.sp_model.specs.Problems.{scenarios}
use Rattle.sp_model.specs.declared.run.Run.{Run}
use Rattle.put_words.specs.NodeSums.{value_at}
use Rattle.agreement.specs.Agreeing.{AreWhole}
use Rattle.candidates.specs.declared.candidate.Candidate.{Candidate}

-- a value for each scenario and nonleaf column
abbrev pub IsWhole : Run → Candidate → Type 0
IsWhole run candidate = AreWhole run candidate.values

-- the value that a candidate gives scenario s in nonleaf column j
abbrev pub given : Run → Candidate → ℕ → ℕ → ℤ
given run candidate s j = value_at run candidate.values s j

-- a candidate has just these values
pub record HasValues (run : Run) (values : ℕ → ℕ → ℤ) (candidate : Candidate) : Type 0 where
  pub whole : IsWhole run candidate
  pub each : (s j : ℕ) → s < scenarios run → j < run.nonleaf
      → given run candidate s j ≡ values s j
