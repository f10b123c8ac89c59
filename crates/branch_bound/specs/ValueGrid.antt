-- by what the values of a problem differ: all are a multiple of a step apart
use Rattle.std.specs.Prelude.{◌≡◌, ℕ, ◌<◌, ◌⊎◌, List, length, ℤ, pos, ◌+ℤ◌, ◌*ℤ◌, ◌≤ℤ◌}
use Rattle.boxed_problem.specs.Data.{Problem}
use Rattle.boxed_problem.specs.Objective.{value_of}
use Rattle.boxed_problem.specs.Points.{InBox}
use Rattle.boxed_problem.specs.Sides.{side_at}
use Rattle.base_words.specs.Sums.{number_at}
use Rattle.boxed_problem.specs.declared.parts.Side.{Side}

-- a number is a multiple of a step
abbrev pub IsMultiple : ℤ → ℤ → Type 0
IsMultiple step number = (k : ℤ) × (number ≡ (step *ℤ k))

-- two numbers are a multiple of a step apart
abbrev pub Apart : ℤ → ℤ → ℤ → Type 0
Apart step v w = (k : ℤ) × (l : ℤ) × ((v +ℤ (step *ℤ k)) ≡ (w +ℤ (step *ℤ l)))

-- a column is single, or what it adds at one place and the next differs by multiples of the step
abbrev pub HasStep : ℤ → ℤ → ℤ → Side → Type 0
HasStep step line square s =
    (s.upper ≤ℤ s.lower) ⊎ (IsMultiple step (line +ℤ square) × IsMultiple step (square +ℤ square))

-- each column of a problem has the step
abbrev pub AllStep : Problem → ℤ → Type 0
AllStep b step = (j : ℕ) → j < length b.columns
    → HasStep step (number_at b.line j) (number_at b.square j) (side_at b.columns j)

-- the value at each point of the box is a multiple of the step away from a base
pub record IsGrid (b : Problem) (base step : ℤ) : Type 0 where
  pub positive : pos 1 ≤ℤ step
  pub apart : (x : List ℤ) → InBox b.columns x → Apart step (value_of b x) base
