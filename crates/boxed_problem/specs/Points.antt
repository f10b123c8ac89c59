-- The points of a box: its whole numbers in the order of columns, and how many they are.
use Rattle.std.specs.Prelude.{◌≡◌, ℕ, zero, suc, ◌*◌, ◌<◌, List, [], ◌∷◌, map, length, ℤ, pos, negsuc, ◌+ℤ◌, ◌-ℤ◌, ◌≤ℤ◌}
use Rattle.std.specs.List.{flat_map}
use Rattle.boxed_problem.specs.Sides.{side_at}
use Rattle.base_words.specs.Sums.{number_at}
use Rattle.boxed_problem.specs.declared.parts.Side.{Side}

-- how many whole numbers lie from a to a + d
abbrev pub count_to : ℤ → ℕ
count_to (pos d) = suc d
count_to (negsuc d) = 0

-- how many whole numbers lie on a side
abbrev pub side_count : Side → ℕ
side_count s = count_to (s.upper -ℤ s.lower)

-- n whole numbers, one after another, from a on
abbrev pub run_from : ℤ → ℕ → List ℤ
run_from a zero = []
run_from a (suc n) = a ∷ run_from (a +ℤ pos 1) n

-- the whole numbers of a side, in ascending order
abbrev pub side_values : Side → List ℤ
side_values s = run_from s.lower (side_count s)

-- all points of a box in the order of columns, smaller values first
abbrev pub box_points : List Side → List (List ℤ)
box_points [] = [] ∷ []
box_points (s ∷ ss) = flat_map (λ v. map (λ x. v ∷ x) (box_points ss)) (side_values s)

-- how many points a box has
abbrev pub point_count : List Side → ℕ
point_count [] = 1
point_count (s ∷ ss) = side_count s * point_count ss

-- a point of the box: one value for each column, on its side
pub record InBox (box : List Side) (x : List ℤ) : Type 0 where
  pub long : length x ≡ length box
  pub lower : (j : ℕ) → j < length box → (side_at box j).lower ≤ℤ number_at x j
  pub upper : (j : ℕ) → j < length box → number_at x j ≤ℤ (side_at box j).upper
