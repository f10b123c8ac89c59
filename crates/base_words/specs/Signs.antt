-- whole numbers by their sign and magnitude

use Rattle.std.specs.Prelude.{ℕ, ℤ, Bool, true, false, Option, Some, None, pos, neg_ℤ, unsigned_abs}

-- the number with this sign and magnitude
abbrev pub signed : Bool → ℕ → ℤ
signed true magnitude = neg_ℤ (pos magnitude)
signed false magnitude = pos magnitude

-- the magnitude of a limit or of a side's end, 0 where there is none
abbrev pub limit_size : Option ℤ → ℕ
limit_size None = 0
limit_size (Some limit) = unsigned_abs limit
