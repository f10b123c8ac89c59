-- Numbers of which those above a cap count as the cap.
use Rattle.std.specs.Prelude.{ℕ, ◌^◌, min}

-- the cap
abbrev pub cap : ℕ
cap = 2 ^ 127

-- a number, or the cap where it is greater
abbrev pub capped : ℕ → ℕ
capped n = min n cap
