-- The choices of a combination, element after element.
use Rattle.std.proofs.Common.{arith, refl, ◌≡◌, ◌≤◌, ◌<◌, ◌+◌, ◌*◌, ◌/◌, ◌%◌, ℕ, zero, suc, ap, ◌∙◌, sym, length, get_or, add-one, drop, slice_index, List, [], ◌∷◌, ◌++◌, append_assoc, append-nil}
use Rattle.std.proofs.Math.Seq.{drop-cons}
use Rattle.std.proofs.Math.Nat.{div-lt_iff_lt-mul, mod-lt, mul-div_cancel_left, mul-le-mul_right, mul_assoc}
use Rattle.smps_stoch.specs.declared.stoch.Element.{Element}
use Rattle.scenario_lists.specs.Combinations.{AreChoices, choices_of, combinations, no_element, realisations_at}

-- the elements from one on
drop_next : (es : List Element) (k : ℕ) → k < length es → drop k es ≡ get_or es k no_element ∷ drop (k + 1) es
drop_next es k h = rw (add-one) (drop-cons es k no_element h)

-- the combinations from an element on
pub combinations_next : (es : List Element) (k : ℕ) → k < length es → combinations (drop k es) ≡ length (realisations_at es k) * combinations (drop (k + 1) es)
combinations_next es k h = ap combinations (drop_next es k h)

-- the choices from an element on
choices_next : (es : List Element) (k r : ℕ) → k < length es → choices_of (drop k es) r ≡ r / combinations (drop (k + 1) es) ∷ choices_of (drop (k + 1) es) (r % combinations (drop (k + 1) es))
choices_next es k r h = ap (λ rest. choices_of rest r) (drop_next es k h)

-- a number below a product has a positive second factor
pub factor_positive : (r n m : ℕ) → r < n * m → 0 < m
factor_positive r n zero h = omega arith
factor_positive r n (suc m) h = omega arith

first_positive : (r n m : ℕ) → r < n * m → 0 < n
first_positive r zero m h = omega arith
first_positive r (suc n) m h = omega arith

-- its quotient by that is below the first
quotient_below : (r n m : ℕ) → r < n * m → r / m < n
quotient_below r n m h = (div-lt_iff_lt-mul (factor_positive r n m h)).1 h

-- the choices of one more element are there
there_next : (e : Element) (es : List Element) (s : ℕ) → s < length e.realisations * combinations es → ((k : ℕ) → k < length es → slice_index (choices_of es (s % combinations es)) k < length (realisations_at es k)) → (k : ℕ) → k < length (e ∷ es) → slice_index (choices_of (e ∷ es) s) k < length (realisations_at (e ∷ es) k)
there_next e es s h rest zero k_lt = quotient_below s (length e.realisations) (combinations es) h
there_next e es s h rest (suc k) k_lt = rest k (omega arith)

-- the choices of a combination that is there
pub are_choices : (es : List Element) (s : ℕ) → s < combinations es → AreChoices es (choices_of es s)
are_choices [] s h = record { whole = refl; there = λ k k_lt. absurd (omega arith) }
are_choices (e ∷ es) s h =
    let m = combinations es in
    let positive : 0 < m = factor_positive s (length e.realisations) m h in
    let rest = are_choices es (s % m) (mod-lt s positive) in
    record { whole = ap suc rest.whole; there = there_next e es s h rest.there }

-- one more choice
pub choices_step : (es : List Element) (whole made : List ℕ) (k rest size : ℕ) → k < length es → size ≡ combinations (drop (k + 1) es) → whole ≡ made ++ choices_of (drop k es) rest → whole ≡ (made ++ rest / size ∷ []) ++ choices_of (drop (k + 1) es) (rest % size)
choices_step es whole made k rest size h s e =
    e ∙ (ap (λ c. made ++ c) (choices_next es k rest h) ∙ (ap (λ m. made ++ (rest / m ∷ choices_of (drop (k + 1) es) (rest % m))) (sym s) ∙ sym (append_assoc made (rest / size ∷ []) (choices_of (drop (k + 1) es) (rest % size)))))

-- the combinations behind one more element
pub size_step : (es : List Element) (k size : ℕ) → k < length es → 0 < length (realisations_at es k) → size ≡ combinations (drop k es) → size / length (realisations_at es k) ≡ combinations (drop (k + 1) es)
size_step es k size h positive s =
    ap (λ n. n / length (realisations_at es k)) (s ∙ combinations_next es k h) ∙ mul-div_cancel_left (combinations (drop (k + 1) es)) positive

-- what is known before an element is chosen: it has a realisation, and the elements behind it have a combination
pub record IsTurn (es : List Element) (k rest size : ℕ) : Type 0 where
  pub some : 0 < length (realisations_at es k)
  pub behind : 0 < combinations (drop (k + 1) es)
  pub below : rest / combinations (drop (k + 1) es) < length (realisations_at es k)

pub turn : (es : List Element) (k rest size : ℕ) → k < length es → size ≡ combinations (drop k es) → rest < size → IsTurn es k rest size
turn es k rest size h s lt =
    let n = length (realisations_at es k) in
    let m = combinations (drop (k + 1) es) in
    let product : rest < n * m = omega (arith, s, combinations_next es k h, lt) in
    record { some = first_positive rest n m product; behind = factor_positive rest n m product; below = quotient_below rest n m product }

-- the product of two positive numbers
product_positive : (n m : ℕ) → 0 < n → 0 < m → 0 < n * m
product_positive zero m h g = omega arith
product_positive (suc n) zero h g = omega arith
product_positive (suc n) (suc m) h g = omega arith

-- elements with realisations have a combination
pub some_combination : (es : List Element) → ((k : ℕ) → k < length es → 0 < length (realisations_at es k)) → 0 < combinations es
some_combination [] h = omega arith
some_combination (e ∷ es) h = product_positive (length e.realisations) (combinations es) (h 0 (omega arith)) (some_combination es (λ k k_lt. h (suc k) (omega arith)))

-- so have the elements behind one
behind_positive : (n m : ℕ) → 0 < n * m → 0 < m
behind_positive n m h = factor_positive 0 n m h

-- a mark with one more choice still has room for the combinations behind it
pub mark_step : (a n d m whole : ℕ) → d < n → (a + 1) * (n * m) ≤ whole → (a * n + d + 1) * m ≤ whole
mark_step a n d m whole lt h =
    let p : a * n + d + 1 ≤ (a + 1) * n = omega arith in
    let q : (a * n + d + 1) * m ≤ (a + 1) * n * m = mul-le-mul_right m p in
    omega (arith, q, mul_assoc (a + 1) n m, h)

-- a factor isn't above the product with a positive number
pub below_whole : (x m whole : ℕ) → 0 < m → x * m ≤ whole → x ≤ whole
below_whole x zero whole h g = omega arith
below_whole x (suc m) whole h g = omega arith

-- past the end stands nothing
drop_past : {X : Type 0} (xs : List X) (k : ℕ) → length xs ≤ k → drop k xs ≡ []
drop_past [] zero h = refl
drop_past [] (suc k) h = refl
drop_past (x ∷ xs) zero h = absurd (omega arith)
drop_past (x ∷ xs) (suc k) h = drop_past xs k (omega arith)

-- all choices are made
pub all_made : (es : List Element) (whole made : List ℕ) (k rest : ℕ) → length es ≤ k → whole ≡ made ++ choices_of (drop k es) rest → made ≡ whole
all_made es whole made k rest h e = sym (e ∙ (ap (λ es. made ++ choices_of es rest) (drop_past es k h) ∙ append-nil made))

-- all combinations are counted
pub all_counted : (es : List Element) (k : ℕ) → length es ≤ k → combinations (drop k es) ≡ 1
all_counted es k h = ap combinations (drop_past es k h)
