-- lowest terms: signs and magnitudes divided by their greatest common divisor
use Rattle.std.proofs.Common.{◌≡◌, refl, sym, ap, ◌∙◌, subst, arith, ℕ, zero, suc, ◌*◌, ◌/◌, ◌<◌, Bool, true, false, ℤ, pos, negsuc, ◌*ℤ◌, ◌<ℤ◌, ◌≤ℤ◌, unsigned_abs, int_lt}
use Rattle.std.proofs.lemmas.Int.{ints}
use Rattle.std.proofs.Math.Nat.{pos_of_dvd_of_pos, dvd_of_mul-dvd-mul_left, mul-dvd-mul_left, one-dvd, div-mul_cancel}
use Rattle.std.proofs.lemmas.Nat.Gcd.{dvd_antisymm}
use Rattle.std.specs.Int.{IsGcd, ◌∣◌}
use Rattle.base_words.specs.Signs.{signed}
use Rattle.wide_num.specs.LowestTerms.{IsCoprime, IsLowest}
use Rattle.wide_num.specs.declared.fraction.Fraction.{Fraction}
use Rattle.base_words.proofs.Comparisons.{above_from_test, below_from_test}

-- the quotient by a divisor, times it
pub quotient_times : (n by : ℕ) → by ∣ n → n ≡ n / by * by
quotient_times n by h = sym (div-mul_cancel by h)

-- the greatest common divisor is above 0, where the second number is
pub gcd_positive : (a b g : ℕ) → IsGcd a b g → 0 < b → 0 < g
gcd_positive a b g h p = pos_of_dvd_of_pos h.1 p

-- only 1 divides both of what the greatest common divisor leaves
left_coprime : (a b g m n d : ℕ) → 0 < g → IsGcd a b g → a ≡ m * g → b ≡ n * g → d ∣ m → d ∣ n → d ≡ 1
left_coprime a b g m n d p h e f x y =
    let ma : g * m ≡ a = grind arith in
    let nb : g * n ≡ b = grind arith in
    let one : g ≡ g * 1 = omega arith in
    let both : g * d ∣ g = h.2 (g * d) (subst (λ k. g * d ∣ k) ma (mul-dvd-mul_left d g x)) (subst (λ k. g * d ∣ k) nb (mul-dvd-mul_left d g y)) in
    dvd_antisymm (dvd_of_mul-dvd-mul_left d p (subst (λ k. g * d ∣ k) one both)) (one-dvd d)

-- a number is its sign and magnitude, whose magnitude was divided by k
signed_times : (a : ℤ) (m k : ℕ) (s : Bool) → unsigned_abs a ≡ m * k → (s ≡ true → a <ℤ pos 0) → (s ≡ false → pos 0 ≤ℤ a) → a ≡ signed s m *ℤ pos k
signed_times (pos a) m k true e t f = absurd (omega (arith, ints, t refl))
signed_times (negsuc a) m k true e t f = grind (arith, ints)
signed_times (pos a) m k false e t f = ap pos e
signed_times (negsuc a) m k false e t f = absurd (omega (arith, ints, f refl))

-- the magnitude of a number made of a sign and a magnitude
pub magnitude_of : (s : Bool) (m : ℕ) → unsigned_abs (signed s m) ≡ m
magnitude_of true zero = refl
magnitude_of true (suc m) = refl
magnitude_of false m = refl

-- a factor of a number above 0 is above 0
factor_above : (b n g : ℕ) → b ≡ n * g → 0 < b → 0 < n
factor_above b zero g e h = absurd (omega arith)
factor_above b (suc n) g e h = omega arith

-- both numbers, divided by their greatest common divisor, are in lowest terms
divided_by_gcd :
    (top bottom : ℤ) (g m n : ℕ) → pos 0 <ℤ bottom → 0 < g → IsGcd (unsigned_abs top) (unsigned_abs bottom) g →
    unsigned_abs top ≡ m * g → unsigned_abs bottom ≡ n * g →
    IsLowest top bottom (record { top = signed (int_lt top (pos 0)) m; bottom = pos n })
divided_by_gcd top bottom g m n above positive h over under =
    let s = int_lt top (pos 0) in
    let top_factor = signed_times top m g s over (below_from_test top (pos 0)) (above_from_test top (pos 0)) in
    let bottom_factor = signed_times bottom n g false under (λ e. absurd (grind (arith, e))) (λ e. omega (arith, ints)) in
    let bottom_above : 0 < n = factor_above (unsigned_abs bottom) n g under (grind (arith, ints)) in
    let coprime : IsCoprime (signed s m) (pos n) = λ d x y. left_coprime (unsigned_abs top) (unsigned_abs bottom) g m n d positive h over under (subst (λ k. d ∣ k) (magnitude_of s m) x) y in
    (omega (arith, ints), (g, positive, top_factor, bottom_factor), coprime)

-- the same, of numbers that are known to be equal to these
pub lowest_from_gcd :
    (top bottom x y : ℤ) (over under g m n : ℕ) → pos 0 <ℤ bottom → 0 < g → IsGcd over under g →
    over ≡ unsigned_abs top → under ≡ unsigned_abs bottom → over ≡ m * g → under ≡ n * g →
    x ≡ signed (int_lt top (pos 0)) m → y ≡ pos n → IsLowest top bottom (record { top = x; bottom = y })
lowest_from_gcd top bottom x y over under g m n above positive h o u over_factor under_factor ex ey =
    let h' : IsGcd (unsigned_abs top) (unsigned_abs bottom) g = subst (λ k. IsGcd k (unsigned_abs bottom) g) o (subst (λ k. IsGcd over k g) u h) in
    rw (ex, ey) (divided_by_gcd top bottom g m n above positive h' (sym o ∙ over_factor) (sym u ∙ under_factor))

-- a number made of a sign and a magnitude, times a natural
times_natural : (s : Bool) (m k : ℕ) → (signed s m *ℤ pos k) ≡ signed s (m * k)
times_natural true zero k = grind (arith, ints)
times_natural true (suc m) k = grind (arith, ints)
times_natural false m k = refl

natural_across : (s : Bool) (m k n : ℕ) → ((signed s m *ℤ pos k) *ℤ pos n) ≡ (signed s m *ℤ (pos n *ℤ pos k))
natural_across s m k n =
    let swap : m * k * n ≡ m * (n * k) = grind arith in
    ap (λ z. z *ℤ pos n) (times_natural s m k) ∙ times_natural s (m * k) n ∙ ap (signed s) swap ∙ sym (times_natural s m (n * k))

across : (t b : ℤ) (k : ℕ) → pos 0 <ℤ b → ((t *ℤ pos k) *ℤ b) ≡ (t *ℤ (b *ℤ pos k))
across (pos m) (pos n) k h = natural_across false m k n
across (negsuc m) (pos n) k h = natural_across true (suc m) k n
across t (negsuc n) k h = absurd (omega (arith, ints))

-- a fraction in lowest terms has the value that it was made of
pub same_value : (top bottom : ℤ) (f : Fraction) → IsLowest top bottom f → top *ℤ f.bottom ≡ f.top *ℤ bottom
same_value top bottom f (above, (k, positive, over, under), coprime) =
    ap (λ z. z *ℤ f.bottom) over ∙ across f.top f.bottom k above ∙ ap (λ z. f.top *ℤ z) (sym under)
