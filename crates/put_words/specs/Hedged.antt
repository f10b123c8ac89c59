-- What a scenario solves between two puts: twice its cost with its multipliers, and a penalty that
-- draws it to the means of its nodes.

use Rattle.std.specs.Prelude.{ℕ, nat_lt, List, map, length, ℤ, pos, ◌+ℤ◌, ◌-ℤ◌, ◌*ℤ◌, if◌then◌else◌}
use Rattle.std.specs.List.{range_with_len}
use Rattle.base_words.specs.Sums.{number_at}
use Rattle.boxed_problem.specs.Data.{Problem}
use Rattle.sp_model.specs.Plans.{multiplier_of}
use Rattle.sp_model.specs.Problems.{problem_in}
use Rattle.sp_model.specs.declared.plan.Multipliers.{Multipliers}
use Rattle.sp_model.specs.declared.run.Run.{Run}
use Rattle.put_words.specs.NextMultipliers.{rounded_down}
use Rattle.put_words.specs.NodeSums.{bundle, sum_of, weight_at, weight_of}

-- twice penalty times weight times the mean of the node of scenario s in column j, rounded down
abbrev pub pull : Run → List ℤ → ℕ → ℕ → ℤ
pull run x s j = rounded_down
    ((pos 2 *ℤ (run.options.rho *ℤ weight_at run s)) *ℤ sum_of run x (bundle run s j) j)
    (weight_of run (bundle run s j))

-- the linear part of column j: twice its cost, and in a nonleaf column twice its multiplier
-- besides, less the pull
abbrev pub hedged_line : Run → Multipliers → List ℤ → ℕ → ℕ → ℤ
hedged_line run multipliers x s j =
    if nat_lt j run.nonleaf then (pos 2
    *ℤ (number_at (problem_in run s).line j +ℤ multiplier_of run multipliers s j))
    -ℤ pull run x s j else pos 2 *ℤ number_at (problem_in run s).line j

-- the square part of column j: penalty times weight in a nonleaf column
abbrev pub hedged_square : Run → ℕ → ℕ → ℤ
hedged_square run s j = if nat_lt j run.nonleaf then run.options.rho *ℤ weight_at run s else pos 0

-- the hedged problem of scenario s: its boxes, limits and entries with this objective, and no
-- constant
unfoldable pub hedged_in : Run → Multipliers → List ℤ → ℕ → Problem
hedged_in run multipliers x s =
    record (problem_in run s) {
      constant = pos 0;
      line = map (hedged_line run multipliers x s) (range_with_len 0 (length run.program.columns));
      square = map (hedged_square run s) (range_with_len 0 (length run.program.columns));
    }
