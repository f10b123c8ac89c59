-- rows of digits without the zeros at their end, up to caps above all limits
use Rattle.std.specs.Prelude.{◌≡◌, ℕ, ◌*◌, ◌%◌, ◌^◌, min, List}
use Rattle.std.specs.Str.Parse.{digits_value}
use Rattle.dec_core.specs.declared.significand.Significand.{Significand}

-- a number of at least 10^37 counts as 10^37, which is above each limit
abbrev pub max_significand : ℕ
max_significand = 10 ^ 37

-- an exponent of at least 2^100 counts as 2^100, which is above each number of digits in memory
abbrev pub max_exponent : ℕ
max_exponent = 2 ^ 100

-- n is a number with these zeros behind it; the number itself ends in 0 only where it is 0, and is
-- known up to its cap
pub record IsStripped (n value zeros : ℕ) : Type 0 where
  pub number : ℕ
  pub exact : n ≡ number * 10 ^ zeros
  pub last : number % 10 ≡ 0 → number ≡ 0
  pub capped : value ≡ min number max_significand

-- a significand of the number that is written by these digits
abbrev pub IsSignificandOf : List ℕ → Significand → Type 0
IsSignificandOf digits significand =
    IsStripped (digits_value 10 digits) significand.value significand.zeros
