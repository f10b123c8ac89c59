-- Weights: a probability of a line times a power of ten is a whole number of at least 1 that is small.
use Rattle.std.proofs.Common.{◌≡◌, refl, sym, ap, ◌∙◌, subst, ℕ, ◌+◌, ◌-◌, ◌*◌, ◌^◌, ◌<◌, ◌≤◌, max, Bool, true, false, not, cond, ◌&&◌, List, [], ◌∷◌, length, map, get_or, ℤ, pos, negsuc, ◌*ℤ◌, ◌≤ℤ◌, FitsSigned, zero, suc, arith, lit≤}
use Rattle.std.specs.Prelude.{filter, fold, int_lt}
use Rattle.std.specs.Int.{w128}
use Rattle.std.specs.List.{All}
use Rattle.std.proofs.Math.IntN.{pos-*ℤ-pos}
use Rattle.std.proofs.Math.Nat.{le_refl, le_trans, mul-le-mul, pow-le-pow_right, le-max_left, le-max_right, max-le}
use Rattle.std.proofs.lemmas.Bool.{ltb-true, ltb-false}
use Rattle.std.proofs.lemmas.Int.{ints, fits_signed_from_abs}
use Rattle.std.proofs.lemmas.List.Elements.{All-head, All-tail}
use Rattle.std.proofs.lemmas.Nat.{pow-add}
use Rattle.dec_core.proofs.Powers.{not_less}
use Rattle.dec_core.specs.DecimalValue.{max_places}
use Rattle.dec_core.specs.Scale.{common_places, scaled_to}
use Rattle.dec_core.specs.declared.decimal.Decimal.{Decimal}
use Rattle.stoch_lines.specs.declared.state.ScenarioHead.{ScenarioHead}
use Rattle.smps_stoch.specs.SaidFacts.{IsProbable}
use Rattle.smps_stoch.specs.StochData.{scenario_places}
use Rattle.smps_stoch.specs.StochFacts.{IsWeight, max_weight}

both : (a b : Bool) → (a && not b) ≡ true → (a ≡ true) × (b ≡ false)
both true true e = absurd (cc e)
both true false e = (refl, refl)
both false b e = absurd (cc e)

-- a number that passes both tests is positive and small
passed : (m : ℤ) (top : ℕ) → (int_lt (pos 0) m && not (int_lt (pos top) m)) ≡ true → (n : ℕ) × (m ≡ pos n) × (0 < n) × (n ≤ top)
passed (pos n) top e =
    let tests = both (int_lt (pos 0) (pos n)) (int_lt (pos top) (pos n)) e in
    (n, refl, ltb-true 0 n tests.0, ltb-false top n tests.1)
passed (negsuc n) top e = absurd (cc e)

-- a weight as a whole number
weight_is : (d : Decimal) (places : ℕ) → IsProbable d → d.places ≤ places → places ≤ max_places → (n : ℕ) × (scaled_to d places ≡ pos n) × (0 < n) × (n ≤ 10 ^ max_weight)
weight_is d places probable enough most =
    let p = passed d.mantissa (10 ^ (9 + d.places)) probable.in_range in
    let power = 10 ^ (places - d.places) in
    let joined : 10 ^ (9 + d.places) * power ≡ 10 ^ (9 + d.places + (places - d.places)) = sym (pow-add 10 (9 + d.places) (places - d.places)) in
    let below : p.0 * power ≤ 10 ^ (9 + d.places) * power = mul-le-mul p.3 (le_refl power) in
    let whole : 10 ^ (9 + d.places + (places - d.places)) ≤ 10 ^ max_weight = pow-le-pow_right {n = 10} (lit≤ tt) {i = 9 + d.places + (places - d.places)} {j = max_weight} (omega (arith, enough, most)) in
    let some = not_less p.0 (places - d.places) in
    let small : p.0 * power ≤ 10 ^ max_weight = le_trans below (subst (λ (n : ℕ). n ≤ 10 ^ max_weight) (sym joined) whole) in (
      p.0 * power,
      ap (λ (m : ℤ). m *ℤ pos power) p.1 ∙ pos-*ℤ-pos p.0 power,
      omega (arith, p.2, some),
      small,
    )

is_weight : (d : Decimal) (places : ℕ) → IsProbable d → d.places ≤ places → places ≤ max_places → IsWeight (scaled_to d places)
is_weight d places probable enough most =
    let w = weight_is d places probable enough most in
    let one : pos 1 ≤ℤ pos w.0 = omega (arith, ints, w.2) in
    let small : pos w.0 ≤ℤ pos (10 ^ max_weight) = omega (arith, ints, w.3) in
    subst IsWeight (sym w.1) (one, small)

pub weight_fits : (d : Decimal) (places : ℕ) → IsProbable d → d.places ≤ places → places ≤ max_places → FitsSigned w128 (scaled_to d places)
weight_fits d places probable enough most =
    let w = weight_is d places probable enough most in
    subst (FitsSigned w128) (sym w.1) (fits_signed_from_abs w128 (pos w.0) (omega (arith, w.3)))

-- the greatest number of places is at least each of them, and at most what bounds them
module _ {X : Type 0} (of : X → Decimal) where
  fold_least : (xs : List X) (start : ℕ) → start ≤ fold (λ most item. max most item.places) start (map of xs)
  fold_least [] start = le_refl start
  fold_least (x ∷ xs) start = le_trans (le-max_left start (of x).places) (fold_least xs (max start (of x).places))

  fold_above : (xs : List X) (start k : ℕ) (d : X) → k < length xs → (of (get_or xs k d)).places ≤ fold (λ most item. max most item.places) start (map of xs)
  fold_above [] start k d lt = absurd (omega (arith, lt))
  fold_above (x ∷ xs) start zero d lt = le_trans (le-max_right start (of x).places) (fold_least xs (max start (of x).places))
  fold_above (x ∷ xs) start (suc k) d lt = fold_above xs (max start (of x).places) k d (omega (arith, lt))

  fold_most : (xs : List X) (start top : ℕ) → start ≤ top → All (λ x. (of x).places ≤ top) xs → fold (λ most item. max most item.places) start (map of xs) ≤ top
  fold_most [] start top small all = small
  fold_most (x ∷ xs) start top small all =
      let P : X → Type 0 = λ x. (of x).places ≤ top in
      fold_most xs (max start (of x).places) top (max-le small (All-head P x xs all)) (All-tail P x xs all)

  places_above : (xs : List X) (k : ℕ) (d : X) → k < length xs → (of (get_or xs k d)).places ≤ common_places (map of xs)
  places_above xs k d lt = fold_above xs 0 k d lt

  pub places_small : (xs : List X) → All (λ x. IsProbable (of x)) xs → common_places (map of xs) ≤ max_places
  places_small xs all = fold_most xs 0 max_places (lit≤ tt) (λ k d lt. (all k d lt).places)

  -- each item's weight by the common power
  pub weights_are : (xs : List X) → All (λ x. IsProbable (of x)) xs → All (λ x. IsWeight (scaled_to (of x) (common_places (map of xs)))) xs
  weights_are xs all k d lt =
      is_weight (of (get_or xs k d)) (common_places (map of xs)) (all k d lt) (places_above xs k d lt) (places_small xs all)

  later : (b : Bool) (x : X) (xs : List X) (n : ℕ) → ((start : ℕ) → n ≤ fold (λ most item. max most item.places) start (map of xs)) → (start : ℕ) → n ≤ fold (λ most item. max most item.places) start (map of (cond b (x ∷ xs) xs))
  later true x xs n on start = on (max start (of x).places)
  later false x xs n on start = on start

  -- so where only the items that pass are counted
  pub passing_above : (p : X → Bool) (xs : List X) (k : ℕ) (d : X) → k < length xs → p (get_or xs k d) ≡ true → (start : ℕ) → (of (get_or xs k d)).places ≤ fold (λ most item. max most item.places) start (map of (filter p xs))
  passing_above p [] k d lt pass start = absurd (omega (arith, lt))
  passing_above p (x ∷ xs) zero d lt pass start =
      let P : Bool → Type 0 = λ b. (of x).places ≤ fold (λ most item. max most item.places) start (map of (cond b (x ∷ filter p xs) (filter p xs))) in
      subst P (sym pass) (le_trans (le-max_right start (of x).places) (fold_least (filter p xs) (max start (of x).places)))
  passing_above p (x ∷ xs) (suc k) d lt pass start =
      later (p x) x (filter p xs) (of (get_or xs k d)).places (passing_above p xs k d (omega (arith, lt)) pass) start

-- the common number of places of the scenarios is enough for each of them, and few
pub head_enough : (scenarios : List ScenarioHead) (places i : ℕ) (d : ScenarioHead) → places ≡ scenario_places scenarios → i < length scenarios → (get_or scenarios i d).probability.places ≤ places
head_enough scenarios places i d is lt =
    subst (λ (p : ℕ). (get_or scenarios i d).probability.places ≤ p) (sym is) (places_above (λ (s : ScenarioHead). s.probability) scenarios i d lt)

pub head_few : (scenarios : List ScenarioHead) (places : ℕ) → places ≡ scenario_places scenarios → All (λ s. IsProbable s.probability) scenarios → places ≤ max_places
head_few scenarios places is probable = subst (λ (p : ℕ). p ≤ max_places) (sym is) (places_small (λ (s : ScenarioHead). s.probability) scenarios probable)

pub head_fits : (scenarios : List ScenarioHead) (places i : ℕ) (d : ScenarioHead) (weight : ℤ) → places ≡ scenario_places scenarios → All (λ s. IsProbable s.probability) scenarios → i < length scenarios → weight ≡ scaled_to (get_or scenarios i d).probability places → FitsSigned w128 weight
head_fits scenarios places i d weight is probable lt weighed =
    subst (FitsSigned w128) (sym weighed) (weight_fits (get_or scenarios i d).probability places (probable i d lt) (head_enough scenarios places i d is lt) (head_few scenarios places is probable))
