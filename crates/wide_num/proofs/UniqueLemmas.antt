-- only one fraction in lowest terms has a given value
use Rattle.std.proofs.Common.{◌≡◌, refl, sym, ap, ◌∙◌, subst, arith, ℕ, zero, suc, ◌+◌, ◌*◌, ◌/◌, ◌%◌, ◌<◌, ℤ, pos, negsuc, ◌*ℤ◌, unsigned_abs}
use Rattle.std.proofs.lemmas.Int.{ints, unsigned_abs-mul}
use Rattle.std.proofs.lemmas.Nat.{mod_below, mod-mul-add, div-add-mod'}
use Rattle.std.proofs.Math.Nat.{mul-lt-mul_of_pos_left, mul-div_cancel, mul-zero, mul-one}
use Rattle.std.proofs.lemmas.Nat.Gcd.{IsGcd-from_zero, IsGcd-from_mod, same_from_IsGcd}
use Rattle.std.specs.Int.{IsGcd, ◌∣◌}
use Rattle.wide_num.specs.LowestTerms.{IsLowest}
use Rattle.wide_num.specs.declared.fraction.Fraction.{Fraction}

-- the remainder of multiples of k
mod_of_multiples : (k m n : ℕ) → 0 < k → 0 < n → (k * m) % (k * n) ≡ k * (m % n)
mod_of_multiples k m n p q =
    let less : k * (m % n) < k * n = mul-lt-mul_of_pos_left (mod_below m n q) p in
    let parts : k * m ≡ (m / n) * (k * n) + k * (m % n) = grind (arith, ap (λ x. k * x) (div-add-mod' m n)) in
    ap (λ x. x % (k * n)) parts ∙ mod-mul-add (m / n) (k * n) (k * (m % n)) less

-- a greatest common divisor, and that of the multiples by k
gcd_of_multiples : (fuel k m n : ℕ) → 0 < k → n < fuel → (g : ℕ) × IsGcd m n g × IsGcd (k * m) (k * n) (k * g)
gcd_of_multiples zero k m n p h = absurd (omega arith)
gcd_of_multiples (suc fuel) k m zero p h = (m, IsGcd-from_zero m zero refl, IsGcd-from_zero (k * m) (k * zero) (mul-zero k))
gcd_of_multiples (suc fuel) k m (suc n) p h =
    let above : 0 < suc n = omega arith in
    let less : m % suc n < fuel = omega (arith, mod_below m (suc n) above) in
    let rest = gcd_of_multiples fuel k (suc n) (m % suc n) p less in
    let inner : IsGcd (k * suc n) ((k * m) % (k * suc n)) (k * rest.0) = subst (λ r. IsGcd (k * suc n) r (k * rest.0)) (sym (mod_of_multiples k m (suc n) p above)) rest.2 in
    (rest.0, IsGcd-from_mod m (suc n) rest.0 rest.1, IsGcd-from_mod (k * m) (k * suc n) (k * rest.0) inner)

-- k is the greatest common divisor of the multiples by k of numbers that only 1 divides
factor_is_gcd : (k m n : ℕ) → 0 < k → ((d : ℕ) → d ∣ m → d ∣ n → d ≡ 1) → IsGcd (m * k) (n * k) k
factor_is_gcd k m n p coprime =
    let found = gcd_of_multiples (suc n) k m n p (omega arith) in
    let one : found.0 ≡ 1 = coprime found.0 found.1.0 found.1.1 in
    let whole : k * found.0 ≡ k = ap (λ g. k * g) one ∙ mul-one k in
    let left : k * m ≡ m * k = grind arith in
    let right : k * n ≡ n * k = grind arith in
    subst (λ a. IsGcd a (n * k) k) left (subst (λ b. IsGcd (k * m) b k) right (subst (λ g. IsGcd (k * m) (k * n) g) whole found.2))

-- the magnitude of a multiple
multiple_magnitude : (a t : ℤ) (k : ℕ) → a ≡ t *ℤ pos k → unsigned_abs a ≡ unsigned_abs t * k
multiple_magnitude a t k e = ap unsigned_abs e ∙ unsigned_abs-mul t (pos k)

-- a fraction in lowest terms was divided by the greatest common divisor
divisor_is_gcd : (top bottom : ℤ) (f : Fraction) (h : IsLowest top bottom f) → IsGcd (unsigned_abs top) (unsigned_abs bottom) h.1.0
divisor_is_gcd top bottom f (above, (k, positive, over, under), coprime) =
    let a = multiple_magnitude top f.top k over in
    let b = multiple_magnitude bottom f.bottom k under in
    rw (a, b) (factor_is_gcd k (unsigned_abs f.top) (unsigned_abs f.bottom) positive coprime)

natural_cancel : (m n k : ℕ) → 0 < k → m * k ≡ n * k → m ≡ n
natural_cancel m n k p e = sym (mul-div_cancel m p) ∙ ap (λ x. x / k) e ∙ mul-div_cancel n p

-- equal multiples by a number above 0 are of equal numbers
cancel : (t u : ℤ) (k : ℕ) → 0 < k → t *ℤ pos k ≡ u *ℤ pos k → t ≡ u
cancel (pos m) (pos n) k p e = ap pos (natural_cancel m n k p (grind (arith, ints)))
cancel (negsuc m) (negsuc n) k p e =
    let same : suc m ≡ suc n = natural_cancel (suc m) (suc n) k p (sym (unsigned_abs-mul (negsuc m) (pos k)) ∙ ap unsigned_abs e ∙ unsigned_abs-mul (negsuc n) (pos k)) in
    ap negsuc (omega (arith, same))
cancel (pos m) (negsuc n) (suc k) p e = absurd (omega (arith, ints, e))
cancel (negsuc m) (pos n) (suc k) p e = absurd (omega (arith, ints, e))
cancel (pos m) (negsuc n) zero p e = absurd (omega arith)
cancel (negsuc m) (pos n) zero p e = absurd (omega arith)

-- two fractions in lowest terms, made of the same numbers, are equal
pub same_lowest : (top bottom : ℤ) (f g : Fraction) → IsLowest top bottom f → IsLowest top bottom g → f ≡ g
same_lowest top bottom f g h i =
    let same : h.1.0 ≡ i.1.0 = same_from_IsGcd (unsigned_abs top) (unsigned_abs bottom) h.1.0 i.1.0 (divisor_is_gcd top bottom f h) (divisor_is_gcd top bottom g i) in
    let tops : f.top ≡ g.top = cancel f.top g.top i.1.0 i.1.1 (sym (subst (λ k. top ≡ f.top *ℤ pos k) same h.1.2) ∙ i.1.2) in
    let bottoms : f.bottom ≡ g.bottom = cancel f.bottom g.bottom i.1.0 i.1.1 (sym (subst (λ k. bottom ≡ f.bottom *ℤ pos k) same h.1.3) ∙ i.1.3) in
    rw (tops, bottoms) refl
