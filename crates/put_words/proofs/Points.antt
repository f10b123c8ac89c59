-- The best points of some problems, and their values in the first columns.

use Rattle.std.proofs.Common.{arith, refl, sym, ap, ◌∙◌, ◌≡◌, ℕ, zero, suc, ◌+◌, ◌*◌, ◌-◌, ◌<◌, ◌≤◌, nat_lt, Bool, true, false, List, [], ◌∷◌, ◌++◌, length, take, get_or, ℤ, pos, Option, Some, None}
use Rattle.std.proofs.lemmas.List.{get_or_append_left, get_or-append_right, get_or-take, length-append, length-take}
use Rattle.std.proofs.Math.Nat.{suc-mul}
use Rattle.std.proofs.Math.Seq.{get_or-append_seam}
use Rattle.std.specs.List.{AllByRecursion, flat_map}
use Rattle.std.specs.Option.{option_and_then, option_map}
use Rattle.base_words.specs.Sums.{number_at}
use Rattle.boxed_problem.specs.Data.{Problem}
use Rattle.boxed_problem.specs.Optimum.{best_of}
use Rattle.boxed_problem.specs.declared.parts.Best.{Best}
use Rattle.base_words.proofs.NumberTests.{less_from_test, not_less_from_test}
use Rattle.base_words.proofs.FirstAnswers.{same_some}
use Rattle.put_words.specs.Puts.{bests_below}

-- a list has the best point of each problem
pub record AreBests (n : ℕ) (problems : ℕ → Problem) (points : List (List ℤ)) : Type 0 where
  pub long : length points ≡ n
  pub each : (s : ℕ) → s < n → (best : Best) × (best_of (problems s) ≡ Some best) × (get_or points s [] ≡ best.point)

-- one problem more
bests_more : (n : ℕ) (problems : ℕ → Problem) (front points : List (List ℤ)) (best : Best) → AreBests n problems front → best_of (problems n) ≡ Some best → points ≡ front ++ best.point ∷ [] → AreBests (suc n) problems points
bests_more n problems front points best before e whole = record {
  long = omega (arith, ap length whole, length-append front (best.point ∷ []), before.long);
  each = λ s l. by_last s l (nat_lt s n) refl;
}
  where
    by_last : (s : ℕ) → s < suc n → (t : Bool) → nat_lt s n ≡ t → (b : Best) × (best_of (problems s) ≡ Some b) × (get_or points s [] ≡ b.point)
    by_last s l true e2 =
        let early = less_from_test s n e2 in
        let old = before.each s early in
        (old.0, old.1, ap (λ ps. get_or ps s []) whole ∙ get_or_append_left front (best.point ∷ []) [] s (omega (arith, before.long)) ∙ old.2)
    by_last s l false e2 =
        let over = not_less_from_test s n e2 in
        let same : s ≡ n = omega arith in
        let at : s ≡ length front = omega (arith, before.long) in
        (best, ap (λ k. best_of (problems k)) same ∙ e, ap (λ ps. get_or ps s []) whole ∙ ap (λ k. get_or (front ++ best.point ∷ []) k []) at ∙ get_or-append_seam front best.point [] [])

pub bests_are : (n : ℕ) (problems : ℕ → Problem) (points : List (List ℤ)) → bests_below n problems ≡ Some points → AreBests n problems points
bests_are zero problems points e =
    let none = same_some e in
    record { long = ap length (sym none); each = λ s l. absurd (omega arith) }
bests_are (suc n) problems points e = by_front (bests_below n problems) refl (best_of (problems n)) refl e (λ front p. bests_are n problems front p)
  where
    by_front : (o : Option (List (List ℤ))) → bests_below n problems ≡ o → (b : Option Best) → best_of (problems n) ≡ b → option_and_then (λ front. option_map (λ (best : Best). front ++ best.point ∷ []) b) o ≡ Some points → ((front : List (List ℤ)) → bests_below n problems ≡ Some front → AreBests n problems front) → AreBests (suc n) problems points
    by_front None p b q d r = absurd (let x = d in cc)
    by_front (Some front) p None q d r = absurd (let x = d in cc)
    by_front (Some front) p (Some best) q d r = bests_more n problems front points best (r front p) q (sym (same_some d))

-- no list: one of the problems has no feasible point
pub bests_none : (n : ℕ) (problems : ℕ → Problem) → bests_below n problems ≡ None → (s : ℕ) × (s < n) × (best_of (problems s) ≡ None)
bests_none zero problems e = absurd (let x = e in cc)
bests_none (suc n) problems e = by_front (bests_below n problems) refl (best_of (problems n)) refl e (λ p. bests_none n problems p)
  where
    by_front : (o : Option (List (List ℤ))) → bests_below n problems ≡ o → (b : Option Best) → best_of (problems n) ≡ b → option_and_then (λ front. option_map (λ (best : Best). front ++ best.point ∷ []) b) o ≡ None → (bests_below n problems ≡ None → (s : ℕ) × (s < n) × (best_of (problems s) ≡ None)) → (s : ℕ) × (s < suc n) × (best_of (problems s) ≡ None)
    by_front None p b q d r = let found = r p in (found.0, omega (arith, found.1), found.2)
    by_front (Some front) p None q d r = (n, omega arith, q)
    by_front (Some front) p (Some best) q d r = absurd (let x = d in cc)

-- one best point more
pub bests_next : (n : ℕ) (problems : ℕ → Problem) (front : List (List ℤ)) (best : Best) → bests_below n problems ≡ Some front → best_of (problems n) ≡ Some best → bests_below (suc n) problems ≡ Some (front ++ best.point ∷ [])
bests_next n problems front best e d =
    ap (λ o. option_and_then (λ f. option_map (λ (b : Best). f ++ b.point ∷ []) (best_of (problems n))) o) e
    ∙ ap (λ o. option_map (λ (b : Best). front ++ b.point ∷ []) o) d

-- the first m values of each point, one point after another
abbrev firsts : ℕ → List (List ℤ) → List ℤ
firsts m points = flat_map (λ point. take m point) points

pub firsts_at : (m : ℕ) (points : List (List ℤ)) (s j : ℕ) → AllByRecursion (λ x. m ≤ length x) points → s < length points → j < m → number_at (firsts m points) (s * m + j) ≡ number_at (get_or points s []) j
firsts_at m [] s j h l k = absurd (omega arith)
firsts_at m (x ∷ points) zero j h l k =
    let at : 0 * m + j ≡ j = omega arith in
    let long : length (take m x) ≡ m = omega (arith, length-take m x, h.0) in
    ap (number_at (firsts m (x ∷ points))) at ∙ get_or_append_left (take m x) (firsts m points) (pos 0) j (omega arith) ∙ get_or-take m x j (pos 0) k
firsts_at m (x ∷ points) (suc s) j h l k =
    let long : length (take m x) ≡ m = omega (arith, length-take m x, h.0) in
    let at : suc s * m + j ≡ m + (s * m + j) = omega (arith, suc-mul s m) in
    let rest : m + (s * m + j) - m ≡ s * m + j = omega arith in
    ap (number_at (firsts m (x ∷ points))) at
    ∙ get_or-append_right (take m x) (firsts m points) m (m + (s * m + j)) (pos 0) long (omega arith)
    ∙ ap (number_at (firsts m points)) rest
    ∙ firsts_at m points s j h.1 (omega arith) k

pub firsts_length : (m : ℕ) (points : List (List ℤ)) → AllByRecursion (λ x. m ≤ length x) points → length (firsts m points) ≡ length points * m
firsts_length m [] h = omega arith
firsts_length m (x ∷ points) h = omega (arith, length-append (take m x) (firsts m points), length-take m x, h.0, firsts_length m points h.1, suc-mul (length points) m)
