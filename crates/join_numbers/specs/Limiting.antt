-- Limits, or that one is large.
use Rattle.std.specs.Prelude.{◌≡◌, ◌≤◌, ◌^◌, ℤ, Option, Result, Ok, Err}
use Rattle.base_words.specs.Signs.{limit_size}
use Rattle.boxed_problem.specs.declared.parts.Limits.{Limits}
use Rattle.join_numbers.specs.UnfitNumbers.{AreLarge}
use Rattle.join_numbers.specs.declared.limits.Unfit.{Unfit}

-- the limit, or a fault where it is large
abbrev pub IsLimit : Result (Option ℤ) Unfit → Option ℤ → Type 0
IsLimit (Ok one) limit = one ≡ limit
IsLimit (Err unfit) limit = 2 ^ 127 ≤ limit_size limit

-- the limits, or a fault where one is large
abbrev pub IsLimits : Result Limits Unfit → Limits → Type 0
IsLimits (Ok both) limits = both ≡ limits
IsLimits (Err unfit) limits = AreLarge limits
