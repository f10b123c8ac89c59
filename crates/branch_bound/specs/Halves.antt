-- A box halved at its first column that isn't single.
use Rattle.std.specs.Prelude.{List, [], ◌∷◌, ℤ, pos, ◌+ℤ◌, int_lt, Option, Some, None, if◌then◌else◌}
use Rattle.std.specs.Int.{int_div_euclid}
use Rattle.boxed_problem.specs.declared.parts.Side.{Side}

-- half the sum of a side's ends, rounded down
abbrev pub middle : Side → ℤ
middle s = int_div_euclid (s.lower +ℤ s.upper) (pos 2)

-- a side up to its middle
abbrev pub low_half : Side → Side
low_half s = record { lower = s.lower; upper = middle s }

-- a side above its middle
abbrev pub high_half : Side → Side
high_half s = record { lower = middle s +ℤ pos 1; upper = s.upper }

-- the two halves of a box
pub record Halves : Type 0 where
  pub low : List Side
  pub high : List Side

-- the halves of a box with a further column in front
abbrev pub behind : Side → Option Halves → Option Halves
behind s None = None
behind s (Some h) = Some (record { low = s ∷ h.low; high = s ∷ h.high })

-- a box halved at its first column that isn't single; none where all columns are single
abbrev pub halves : List Side → Option Halves
halves [] = None
halves (s ∷ ss) =
    if int_lt s.lower s.upper then Some (record { low = low_half s ∷ ss; high = high_half s ∷ ss })
    else behind s (halves ss)
