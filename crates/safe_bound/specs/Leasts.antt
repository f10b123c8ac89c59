-- the least that a column adds to an objective over the whole numbers of a side, and the places
-- where it does

use Rattle.std.specs.Prelude.{◌≡◌, ℕ, List, length, map, ℤ, ◌+ℤ◌, ◌-ℤ◌, ◌*ℤ◌, ◌≤ℤ◌, ◌<ℤ◌}
use Rattle.std.specs.Int.{int_min}
use Rattle.std.specs.List.{fold}
use Rattle.boxed_problem.specs.Objective.{curve}
use Rattle.boxed_problem.specs.Points.{side_values}
use Rattle.boxed_problem.specs.Sides.{side_at}
use Rattle.base_words.specs.Sums.{number_at, sum_below}
use Rattle.boxed_problem.specs.declared.parts.Side.{Side}
use Rattle.boxed_problem.specs.Data.{Problem}

-- the least that a column adds to the objective over all whole numbers of a side
abbrev pub least_on : ℤ → ℤ → Side → ℤ
least_on line square s =
    fold int_min (curve line square s.lower) (map (curve line square) (side_values s))

-- a place of a side at which a column adds least
pub record IsLeastAt (line square : ℤ) (s : Side) (place : ℤ) : Type 0 where
  pub lower : s.lower ≤ℤ place
  pub upper : place ≤ℤ s.upper
  pub least : (x : ℤ) → s.lower ≤ℤ x → x ≤ℤ s.upper → curve line square place ≤ℤ curve line square x

-- the last place to which a column with a square falls: 2 square place is at most square - line,
-- and less than 2 square below it
pub record IsVertex (line square place : ℤ) : Type 0 where
  pub low : ((square *ℤ place) +ℤ (square *ℤ place)) ≤ℤ (square -ℤ line)
  pub high : (square -ℤ line) <ℤ (((square *ℤ place) +ℤ (square *ℤ place)) +ℤ (square +ℤ square))

-- the place of a side nearest to a place
pub record IsNearest (s : Side) (place near : ℤ) : Type 0 where
  pub lower : s.lower ≤ℤ near
  pub upper : near ≤ℤ s.upper
  pub below : near <ℤ place → near ≡ s.upper
  pub above : place <ℤ near → near ≡ s.lower

-- the least that column j adds in a box
abbrev pub least_part : List ℤ → List ℤ → List Side → ℕ → ℤ
least_part line square box j = least_on (number_at line j) (number_at square j) (side_at box j)

-- the objective's least in a box, column by column
abbrev pub least_value : Problem → List Side → ℤ
least_value b box = b.constant +ℤ sum_below (length b.columns) (least_part b.line b.square box)
