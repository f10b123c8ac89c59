-- Numbers that fit 128 bits, and those that don't.
use Rattle.std.specs.Prelude.{◌≡◌, ℕ, ◌≤◌, ◌^◌, ℤ, unsigned_abs, Option, Some, None}

-- a number of a magnitude of 2^127 or more
abbrev pub IsLarge : ℤ → Type 0
IsLarge z = 2 ^ 127 ≤ unsigned_abs z

-- the number, or none where it is large
abbrev pub IsFit : Option ℤ → ℤ → Type 0
IsFit (Some number) z = number ≡ z
IsFit None z = IsLarge z

-- the magnitude, or none where it is 2^128 or more
abbrev pub IsSize : Option ℕ → ℕ → Type 0
IsSize (Some number) n = number ≡ n
IsSize None n = 2 ^ 128 ≤ n
