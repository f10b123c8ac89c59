-- How multipliers move from a put to the next: by penalty and weight times what a value lies above
-- its node's mean, rounded so that a node's moves sum to 0.

use Rattle.std.specs.Prelude.{ℕ, ◌*◌, ◌-◌, ◌==◌, List, map, length, take, replicate, ℤ, pos, neg_ℤ, ◌+ℤ◌, ◌-ℤ◌, ◌*ℤ◌, slice_index_or, if◌then◌else◌}
use Rattle.std.specs.Int.{int_div_euclid}
use Rattle.std.specs.List.{range_with_len}
use Rattle.base_words.specs.Gathered.{gathered}
use Rattle.base_words.specs.ListSums.{sum_z}
use Rattle.sp_model.specs.Plans.{multiplier_of}
use Rattle.sp_model.specs.Problems.{scenarios}
use Rattle.sp_model.specs.declared.plan.Multipliers.{Multipliers}
use Rattle.sp_model.specs.declared.run.Run.{Run}
use Rattle.put_words.specs.NodeSums.{bundle, sum_of, value_at, weight_at, weight_of}

-- a / b rounded down, where b is above 0
abbrev pub rounded_down : ℤ → ℤ → ℤ
rounded_down a b = int_div_euclid a b

-- penalty times weight times what the value of scenario s lies above its node's mean, rounded down;
-- the mean is the node's sum over its weight
abbrev pub rise : Run → List ℤ → List ℕ → ℕ → ℕ → ℤ
rise run x members j s =
    rounded_down ((run.options.rho *ℤ weight_at run s)
    *ℤ ((weight_of run members *ℤ value_at run x s j) -ℤ sum_of run x members j))
    (weight_of run members)

-- the last of a node's scenarios, and those before it
abbrev pub last_of : List ℕ → ℕ
last_of members = slice_index_or members (length members - 1) 0

abbrev pub front_of : List ℕ → List ℕ
front_of members = take (length members - 1) members

-- the move of scenario s in its node: its rise; the last one of the node takes what makes the sum 0
abbrev pub move_in : Run → List ℤ → List ℕ → ℕ → ℕ → ℤ
move_in run x members j s = if s == last_of members
    then neg_ℤ (sum_z (rise run x members j) (front_of members)) else rise run x members j s

-- the next multiplier of scenario s and nonleaf column j
abbrev pub moved : Run → Multipliers → List ℤ → ℕ → ℕ → ℤ
moved run multipliers x s j =
    multiplier_of run multipliers s j +ℤ move_in run x (bundle run s j) j s

-- the next multipliers, scenario after scenario
unfoldable pub next_of : Run → Multipliers → List ℤ → Multipliers
next_of run multipliers x = record {
  values = gathered (scenarios run)
      (λ s. map (moved run multipliers x s) (range_with_len 0 run.nonleaf));
}

-- multipliers of 0
abbrev pub no_multipliers : Run → Multipliers
no_multipliers run = record { values = replicate (scenarios run * run.nonleaf) (pos 0) }
