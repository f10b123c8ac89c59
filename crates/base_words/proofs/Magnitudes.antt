-- magnitudes of signed numbers: those of sums, differences and products, and when a number fits its bits

use Rattle.std.proofs.Common.{arith, refl, ap, ◌∙◌, ◌≡◌, zero, suc, ◌+◌, ◌*◌, ◌^◌, ◌<◌, ◌≤◌, max, ℤ, pos, negsuc, ◌+ℤ◌, ◌-ℤ◌, ◌*ℤ◌, ◌≤ℤ◌, ◌<ℤ◌, FitsSigned, w64, unsigned_abs, neg_ℤ}
use Rattle.std.proofs.lemmas.Int.{ints, fits_signed_from_abs, fits_signed_mul, unsigned_abs-mul}
use Rattle.std.specs.Int.{w128}

-- the magnitude of a sum
pub abs-add : (a b : ℤ) → unsigned_abs (a +ℤ b) ≤ unsigned_abs a + unsigned_abs b
abs-add (pos a) (pos b) = omega (arith, ints)
abs-add (pos a) (negsuc b) = omega (arith, ints)
abs-add (negsuc a) (pos b) = omega (arith, ints)
abs-add (negsuc a) (negsuc b) = omega (arith, ints)

-- the magnitude of a difference
pub abs-less : (a b : ℤ) → unsigned_abs (a -ℤ b) ≤ unsigned_abs a + unsigned_abs b
abs-less (pos a) (pos b) = omega (arith, ints)
abs-less (pos a) (negsuc b) = omega (arith, ints)
abs-less (negsuc a) (pos b) = omega (arith, ints)
abs-less (negsuc a) (negsuc b) = omega (arith, ints)

-- a number of no magnitude
pub abs_none : (a : ℤ) → unsigned_abs a ≤ 0 → a ≡ pos 0
abs_none (pos n) h = omega (arith, ints)
abs_none (negsuc n) h = absurd (omega arith)

-- the magnitude of the opposite
pub abs_opposite : (a : ℤ) → unsigned_abs (neg_ℤ a) ≡ unsigned_abs a
abs_opposite (pos zero) = refl
abs_opposite (pos (suc n)) = refl
abs_opposite (negsuc n) = refl

-- a number between two ends is no greater than the greater of them
pub abs_between : (l u x : ℤ) → l ≤ℤ x → x ≤ℤ u → unsigned_abs x ≤ max (unsigned_abs l) (unsigned_abs u)
abs_between (pos l) (pos u) (pos x) h k = omega (arith, ints)
abs_between (pos l) (pos u) (negsuc x) h k = omega (arith, ints)
abs_between (pos l) (negsuc u) (pos x) h k = omega (arith, ints)
abs_between (pos l) (negsuc u) (negsuc x) h k = omega (arith, ints)
abs_between (negsuc l) (pos u) (pos x) h k = omega (arith, ints)
abs_between (negsuc l) (pos u) (negsuc x) h k = omega (arith, ints)
abs_between (negsuc l) (negsuc u) (pos x) h k = omega (arith, ints)
abs_between (negsuc l) (negsuc u) (negsuc x) h k = omega (arith, ints)

-- a number of a small magnitude fits 128 bits
pub fits_from_abs : (z : ℤ) → unsigned_abs z ≤ 2 ^ 126 → FitsSigned w128 z
fits_from_abs z h = fits_signed_from_abs w128 z (omega arith)

-- a product, and one with a square, fit where their magnitude is small
pub product_fits : (a x : ℤ) → unsigned_abs a * unsigned_abs x ≤ 2 ^ 125 → FitsSigned w128 (a *ℤ x)
product_fits a x h = fits_from_abs (a *ℤ x) (omega (arith, unsigned_abs-mul a x))

pub square_fits : (a x : ℤ) → unsigned_abs a * (unsigned_abs x * unsigned_abs x) ≤ 2 ^ 125 → FitsSigned w128 (a *ℤ (x *ℤ x))
square_fits a x h = fits_from_abs (a *ℤ (x *ℤ x)) (omega (arith, unsigned_abs-mul a (x *ℤ x) ∙ ap (λ n. unsigned_abs a * n) (unsigned_abs-mul x x)))

-- twice a number of small magnitude fits
pub double_fits : (a : ℤ) → unsigned_abs a ≤ 2 ^ 125 → FitsSigned w128 (a +ℤ a)
double_fits a h = fits_from_abs (a +ℤ a) (omega (arith, abs-add a a))

-- a difference of numbers of small magnitude fits
pub less_fits : (a b : ℤ) → unsigned_abs a ≤ 2 ^ 125 → unsigned_abs b ≤ 2 ^ 125 → FitsSigned w128 (a -ℤ b)
less_fits a b h k = fits_from_abs (a -ℤ b) (omega (arith, abs-less a b))

-- the square of a 64-bit number fits
pub square64_fits : (x : ℤ) → FitsSigned w64 x → FitsSigned w128 (x *ℤ x)
square64_fits x f = fits_signed_mul w128 x x (2 ^ 63) (2 ^ 63) (short x f) (short x f) (omega arith)
  where
    short : (x : ℤ) → FitsSigned w64 x → unsigned_abs x ≤ 2 ^ 63
    short (pos n) f = omega (arith, f.sfits)
    short (negsuc n) f = omega (arith, f.sfits)

-- what is below a 64-bit number can go up by one
pub next64_fits : (v u : ℤ) → v <ℤ u → FitsSigned w64 v → FitsSigned w64 u → FitsSigned w64 (v +ℤ pos 1)
next64_fits v u h f g = fits_signed_from_abs w64 (v +ℤ pos 1) (small v u h f g)
  where
    small : (v u : ℤ) → v <ℤ u → FitsSigned w64 v → FitsSigned w64 u → unsigned_abs (v +ℤ pos 1) < 2 ^ 63
    small (pos v) (pos u) h f g = omega (arith, ints, f.sfits, g.sfits)
    small (pos v) (negsuc u) h f g = absurd (omega (arith, ints))
    small (negsuc v) u h f g = omega (arith, ints, f.sfits)
