-- The sides of a box, and boxes within boxes.
use Rattle.std.specs.Prelude.{◌≡◌, ℕ, ◌<◌, List, length, map, ℤ, pos, ◌≤ℤ◌, max, unsigned_abs, slice_index_or}
use Rattle.std.specs.List.{AllByRecursion}
use Rattle.boxed_problem.specs.declared.parts.Side.{Side}

-- what stands past the end of a list of sides
abbrev pub no_side : Side
no_side = record { lower = pos 0; upper = pos 0 }

-- the side of column j
abbrev pub side_at : List Side → ℕ → Side
side_at box j = slice_index_or box j no_side

-- the greater magnitude of a side's ends
abbrev pub reach : Side → ℕ
reach s = max (unsigned_abs s.lower) (unsigned_abs s.upper)

-- no side is empty
abbrev pub Filled : List Side → Type 0
Filled box = AllByRecursion (λ (s : Side). s.lower ≤ℤ s.upper) box

-- the sides lie in others: as many, none empty, each within the one of its column
pub record Within (inner outer : List Side) : Type 0 where
  pub long : length inner ≡ length outer
  pub filled : Filled inner
  pub lower : (j : ℕ) → j < length outer → (side_at outer j).lower ≤ℤ (side_at inner j).lower
  pub upper : (j : ℕ) → j < length outer → (side_at inner j).upper ≤ℤ (side_at outer j).upper

-- the point of all lower ends
abbrev pub corner : List Side → List ℤ
corner box = map (λ (s : Side). s.lower) box
