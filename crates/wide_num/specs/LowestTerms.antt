-- when a fraction is in lowest terms
use Rattle.std.specs.Prelude.{◌≡◌, ℕ, ℤ, pos, ◌<◌, ◌<ℤ◌, ◌*ℤ◌, unsigned_abs}
use Rattle.std.specs.Int.{◌∣◌}
use Rattle.wide_num.specs.declared.fraction.Fraction.{Fraction}

-- no whole number but 1 divides both
abbrev pub IsCoprime : ℤ → ℤ → Type 0
IsCoprime a b = (d : ℕ) → d ∣ unsigned_abs a → d ∣ unsigned_abs b → d ≡ 1

-- both numbers are the fraction's, times one number above 0
abbrev pub IsExpansion : ℤ → ℤ → Fraction → Type 0
IsExpansion top bottom f = (k : ℕ) × (0 < k) × (top ≡ f.top *ℤ pos k) × (bottom ≡ f.bottom *ℤ pos k)

-- the fraction is top / bottom in lowest terms, with its bottom above 0
abbrev pub IsLowest : ℤ → ℤ → Fraction → Type 0
IsLowest top bottom f = (pos 0 <ℤ f.bottom) × IsExpansion top bottom f × IsCoprime f.top f.bottom
