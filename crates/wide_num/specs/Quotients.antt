-- quotients rounded down and up
use Rattle.std.specs.Prelude.{ℤ, ◌+ℤ◌, ◌*ℤ◌, ◌<ℤ◌, ◌≤ℤ◌}

-- q is a / b rounded down, where b is above 0: q * b is at most a, and a is less than one b above
-- it
abbrev pub IsFloor : ℤ → ℤ → ℤ → Type 0
IsFloor a b q = ((q *ℤ b) ≤ℤ a) × (a <ℤ ((q *ℤ b) +ℤ b))

-- q is a / b rounded up, where b is above 0: q * b is at least a, and less than one b above it
abbrev pub IsCeiling : ℤ → ℤ → ℤ → Type 0
IsCeiling a b q = (a ≤ℤ (q *ℤ b)) × ((q *ℤ b) <ℤ (a +ℤ b))
