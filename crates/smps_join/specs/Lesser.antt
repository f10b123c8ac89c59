-- The least of some line numbers.
use Rattle.std.specs.Prelude.{ℕ, min, Option, Some, None}

-- the lesser one of a line and another, if there is one
abbrev pub lesser : Option ℕ → ℕ → ℕ
lesser None line = line
lesser (Some least) line = min least line
