-- The box of a column, with missing ends filled in.
use Rattle.std.specs.Prelude.{ℕ, Bool, ◌&&◌, List, map, ℤ, pos, neg_ℤ, ◌+ℤ◌, ◌-ℤ◌, Option, Some, None}
use Rattle.std.specs.Ordering.{int_eq}
use Rattle.boxed_problem.specs.Sides.{side_at}
use Rattle.std.specs.Int.{int_min, int_max}
use Rattle.boxed_problem.specs.declared.parts.Side.{Side}
use Rattle.smps_words.specs.CoreFacts.{max_end}
use Rattle.smps_words.specs.declared.core_data.CoreColumn.{CoreColumn}

-- a side with these ends
abbrev pub side : ℤ → ℤ → Side
side lower upper = record { lower = lower; upper = upper }

-- the box of these ends: a missing one lies `missing` from the other, and not beyond 10^9; with
-- both missing it reaches as far to each side
abbrev pub filled : ℤ → Option ℤ → Option ℤ → Side
filled missing (Some lower) (Some upper) = side lower upper
filled missing (Some lower) None = side lower (int_min (lower +ℤ missing) (pos max_end))
filled missing None (Some upper) = side (int_max (upper -ℤ missing) (neg_ℤ (pos max_end))) upper
filled missing None None = side (neg_ℤ missing) missing

-- the box of a column
abbrev pub box_in : ℤ → CoreColumn → Side
box_in missing column = filled missing column.lower column.upper

-- the boxes of all columns
abbrev pub boxes_of : ℤ → List CoreColumn → List Side
boxes_of missing columns = map (box_in missing) columns

-- whether a box is the single 0
abbrev pub is_zero : Side → Bool
is_zero box = int_eq box.lower (pos 0) && int_eq box.upper (pos 0)

-- whether column j's box is the single 0, so that its cost and its entries leave the run
abbrev pub is_idle : List Side → ℕ → Bool
is_idle sides j = is_zero (side_at sides j)
