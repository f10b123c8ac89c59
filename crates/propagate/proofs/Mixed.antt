-- Sums of which the first parts are taken from one function, and the others from another.
use Rattle.std.proofs.Common.{arith, refl, ap, sym, ◌∙◌, ◌≡◌, ℕ, zero, suc, ◌+◌, ◌<◌, ◌≤◌, List, [], ◌∷◌, length, slice_index_or, ℤ, pos, ◌+ℤ◌, ◌-ℤ◌, ◌≤ℤ◌, unsigned_abs}
use Rattle.std.proofs.lemmas.Int.{ints}
use Rattle.std.proofs.lemmas.List.Sums.{sum_by-cons}
use Rattle.std.specs.List.{sum_by}
use Rattle.base_words.specs.ListSums.{sum_z}
use Rattle.base_words.proofs.ListSums.{sum_z-cons}
use Rattle.base_words.proofs.Magnitudes.{abs-add}

-- the first k parts by g, the others by f
abbrev pub mixed : {E : Type 0} → ℕ → (E → ℤ) → (E → ℤ) → List E → ℤ
mixed k f g [] = pos 0
mixed zero f g (e ∷ es) = f e +ℤ mixed zero f g es
mixed (suc k) f g (e ∷ es) = g e +ℤ mixed k f g es

mixed_zero : {E : Type 0} (f g : E → ℤ) (es : List E) → mixed zero f g es ≡ sum_z f es
mixed_zero f g [] = refl
mixed_zero f g (e ∷ es) = ap (λ z. f e +ℤ z) (mixed_zero f g es) ∙ sym (sum_z-cons f e es)

-- one more part
mixed_suc : {E : Type 0} (f g : E → ℤ) (es : List E) (k : ℕ) (d : E) → k < length es → mixed (suc k) f g es ≡ ((mixed k f g es -ℤ f (slice_index_or es k d)) +ℤ g (slice_index_or es k d))
mixed_suc f g [] k d l = absurd (omega arith)
mixed_suc f g (e ∷ es) zero d l = omega (arith, ints)
mixed_suc f g (e ∷ es) (suc k) d l = let r = mixed_suc f g es k d (omega arith) in omega (arith, ints, r)

pub mixed_next : {E : Type 0} (f g : E → ℤ) (es : List E) (k : ℕ) (d : E) → k < length es → mixed (k + 1) f g es ≡ ((mixed k f g es -ℤ f (slice_index_or es k d)) +ℤ g (slice_index_or es k d))
mixed_next f g es k d l = let e : (k + 1) ≡ suc k = omega arith in ap (λ m. mixed m f g es) e ∙ mixed_suc f g es k d l

-- where the first parts are the same
pub mixed_start : {E : Type 0} (f g : E → ℤ) (es : List E) (k : ℕ) (d : E) → ((m : ℕ) → m < k → m < length es → f (slice_index_or es m d) ≡ g (slice_index_or es m d)) → mixed k f g es ≡ sum_z f es
mixed_start f g [] k d h = refl
mixed_start f g (e ∷ es) zero d h = mixed_zero f g (e ∷ es)
mixed_start f g (e ∷ es) (suc k) d h =
    let p = h zero (omega arith) (omega arith) in
    let r = mixed_start f g es k d (λ m l n. h (suc m) (omega arith) (omega arith)) in
    omega (arith, ints, p, r, sum_z-cons f e es)

-- where the last parts are the same
pub mixed_end : {E : Type 0} (f g : E → ℤ) (es : List E) (k : ℕ) (d : E) → ((m : ℕ) → k ≤ m → m < length es → f (slice_index_or es m d) ≡ g (slice_index_or es m d)) → mixed k f g es ≡ sum_z g es
mixed_end f g [] k d h = refl
mixed_end f g (e ∷ es) zero d h =
    let p = h zero (omega arith) (omega arith) in
    let r = mixed_end f g es zero d (λ m l n. h (suc m) (omega arith) (omega arith)) in
    omega (arith, ints, p, r, sum_z-cons g e es)
mixed_end f g (e ∷ es) (suc k) d h =
    let r = mixed_end f g es k d (λ m l n. h (suc m) (omega arith) (omega arith)) in
    omega (arith, ints, r, sum_z-cons g e es)

-- the magnitude, where both parts are within the same
pub mixed-abs : {E : Type 0} (f g : E → ℤ) (h : E → ℕ) → ((e : E) → unsigned_abs (f e) ≤ h e) → ((e : E) → unsigned_abs (g e) ≤ h e) → (k : ℕ) (es : List E) → unsigned_abs (mixed k f g es) ≤ sum_by h es
mixed-abs f g h a b k [] = omega (arith, ints)
mixed-abs f g h a b zero (e ∷ es) = omega (arith, mixed-abs f g h a b zero es, abs-add (f e) (mixed zero f g es), a e, sum_by-cons h e es)
mixed-abs f g h a b (suc k) (e ∷ es) = omega (arith, mixed-abs f g h a b k es, abs-add (g e) (mixed k f g es), b e, sum_by-cons h e es)

-- of two sums with parts in order, those of one element are no further apart than the sums
pub one_part : {E : Type 0} (f g : E → ℤ) → ((e : E) → f e ≤ℤ g e) → (es : List E) (k : ℕ) (d : E) → k < length es → (sum_z f es +ℤ (g (slice_index_or es k d) -ℤ f (slice_index_or es k d))) ≤ℤ sum_z g es
one_part f g h [] k d l = absurd (omega arith)
one_part f g h (e ∷ es) zero d l = let r = sums_order f g h es in omega (arith, ints, r, sum_z-cons f e es, sum_z-cons g e es)
  where
    sums_order : {E : Type 0} (f g : E → ℤ) → ((e : E) → f e ≤ℤ g e) → (es : List E) → sum_z f es ≤ℤ sum_z g es
    sums_order f g h [] = omega (arith, ints)
    sums_order f g h (e ∷ es) = let r = sums_order f g h es in let p = h e in omega (arith, ints, r, p, sum_z-cons f e es, sum_z-cons g e es)
one_part f g h (e ∷ es) (suc k) d l = let r = one_part f g h es k d (omega arith) in let p = h e in omega (arith, ints, r, p, sum_z-cons f e es, sum_z-cons g e es)
