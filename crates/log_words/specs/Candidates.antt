-- Candidates: values of the nonleaf columns that scenarios of one node share, made of a put's; and
-- what they cost at least.

use Rattle.std.specs.Prelude.{ℕ, ◌%◌, nat_lt, List, length, map, ℤ, pos, ◌+ℤ◌, ◌*ℤ◌, Option, if◌then◌else◌, slice_index}
use Rattle.std.specs.Int.{int_max, int_min}
use Rattle.std.specs.List.{range_with_len}
use Rattle.boxed_problem.specs.Data.{Problem}
use Rattle.boxed_problem.specs.Sides.{side_at}
use Rattle.boxed_problem.specs.declared.parts.Side.{Side}
use Rattle.sp_model.specs.Changes.{sides}
use Rattle.sp_model.specs.Problems.{least_of, problem_in, scenarios, sum_some}
use Rattle.sp_model.specs.declared.run.Run.{Run}
use Rattle.put_words.specs.NextMultipliers.{rounded_down}
use Rattle.put_words.specs.NodeSums.{bundle, sum_of, value_at, weight_of}

-- a value for each scenario and nonleaf column
abbrev pub Candidate : Type 0
Candidate = ℕ → ℕ → ℤ

-- candidate c: each node takes the values of one of its scenarios, which are counted round
abbrev pub picked : Run → List ℤ → ℕ → Candidate
picked run x c s j = value_at run x (slice_index (bundle run s j) (c % length (bundle run s j))) j

-- a value, or the nearest one in a box
abbrev pub cut : Side → ℤ → ℤ
cut side value = int_min side.upper (int_max side.lower value)

-- the weighted mean of each node, to the nearest whole number and up from the middle between two,
-- cut to the column's box
abbrev pub mean_of : Run → List ℤ → Candidate
mean_of run x s j =
    let w = weight_of run (bundle run s j) in
    cut (side_at (sides run.program) j)
    (rounded_down ((pos 2 *ℤ sum_of run x (bundle run s j) j) +ℤ w) (pos 2 *ℤ w))

-- a box of one value
abbrev pub single : ℤ → Side
single value = record { lower = value; upper = value }

-- the problem of scenario s with its nonleaf columns fixed to a candidate
abbrev pub fixed_in : Run → Candidate → ℕ → Problem
fixed_in run candidate s = record (problem_in run s) {
  columns = map (λ j. if nat_lt j run.nonleaf then single (candidate s j)
      else side_at (sides run.program) j) (range_with_len 0 (length run.program.columns));
}

-- the least cost under a candidate; none where a scenario has no point under it
unfoldable pub price_of : Run → Candidate → Option ℤ
price_of run candidate = sum_some (scenarios run) (λ s. least_of (fixed_in run candidate s))
