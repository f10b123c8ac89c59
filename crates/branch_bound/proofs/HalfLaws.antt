-- The halves of a box have its points, in order, and each is narrower.
use Rattle.std.proofs.Common.{arith, refl, ap, sym, subst, ◌∙◌, ◌≡◌, ℕ, zero, suc, ◌+◌, ◌<◌, Bool, true, false, List, [], ◌∷◌, ◌++◌, length, map, ℤ, pos, negsuc, ◌+ℤ◌, ◌-ℤ◌, ◌≤ℤ◌, ◌<ℤ◌, Option, Some, None, if◌then◌else◌, int_lt}
use Rattle.std.proofs.lemmas.Int.{ints}
use Rattle.std.proofs.lemmas.List.{map-append, append-nil}
use Rattle.std.proofs.lemmas.Grind.{flat_map-append}
use Rattle.std.specs.Int.{int_div_euclid}
use Rattle.std.specs.List.{flat_map}
use Rattle.branch_bound.specs.Halves.{Halves, behind, halves, high_half, low_half, middle}
use Rattle.branch_bound.specs.PlainSearch.{extent, width}
use Rattle.boxed_problem.specs.Points.{box_points, count_to, run_from, side_values}
use Rattle.boxed_problem.specs.Sides.{Filled, Within, corner, side_at}
use Rattle.boxed_problem.proofs.Lying.{Single}
use Rattle.boxed_problem.specs.declared.parts.Side.{Side}
use Rattle.boxed_problem.proofs.Listing.{count_is}
use Rattle.base_words.proofs.Comparisons.{above_from_test, below_from_test}

-- a box is cut in two at its first column that isn't single
pub data Cut : List Side → List Side → List Side → Type 0 where
  here : (s : Side) (ss : List Side) → s.lower <ℤ s.upper → Cut (s ∷ ss) (low_half s ∷ ss) (high_half s ∷ ss)
  after : (s : Side) {ss low high : List Side} → s.upper ≤ℤ s.lower → Cut ss low high → Cut (s ∷ ss) (s ∷ low) (s ∷ high)

cut_first : (s : Side) (ss : List Side) (h : Halves) (t : Bool) → int_lt s.lower s.upper ≡ t → (o : Option Halves) → ((g : Halves) → o ≡ Some g → Cut ss g.low g.high) →
    (if t then Some (record { low = low_half s ∷ ss; high = high_half s ∷ ss }) else behind s o) ≡ Some h → Cut (s ∷ ss) h.low h.high
cut_first s ss h true e o r d =
    let same : record { low = low_half s ∷ ss; high = high_half s ∷ ss } ≡ h = cc in
    subst (λ (g : Halves). Cut (s ∷ ss) g.low g.high) same (here s ss (below_from_test s.lower s.upper e))
cut_first s ss h false e None r d = absurd cc
cut_first s ss h false e (Some g) r d =
    let same : record { low = s ∷ g.low; high = s ∷ g.high } ≡ h = cc in
    subst (λ (g : Halves). Cut (s ∷ ss) g.low g.high) same (after s (above_from_test s.lower s.upper e) (r g refl))

-- the halves of a box are a cut of it
pub cut_of : (box : List Side) (h : Halves) → halves box ≡ Some h → Cut box h.low h.high
cut_of [] h e = absurd cc
cut_of (s ∷ ss) h e = cut_first s ss h (int_lt s.lower s.upper) refl (halves ss) (λ g d. cut_of ss g d) e

-- twice the middle is the sum of the ends, or one less
half_twice : (z : ℤ) → ((int_div_euclid z (pos 2) +ℤ int_div_euclid z (pos 2)) ≤ℤ z) × (z ≤ℤ ((int_div_euclid z (pos 2) +ℤ int_div_euclid z (pos 2)) +ℤ pos 1))
half_twice (pos n) = (omega (arith, ints), omega (arith, ints))
half_twice (negsuc n) = (omega (arith, ints), omega (arith, ints))

-- the middle lies on the side, below its upper end
middle_within : (s : Side) → s.lower <ℤ s.upper → (s.lower ≤ℤ middle s) × (middle s <ℤ s.upper)
middle_within s h =
    let d = half_twice (s.lower +ℤ s.upper) in
    (omega (arith, ints, d.0, d.1), omega (arith, ints, d.0, d.1))

extent_is : (z : ℤ) → pos 0 ≤ℤ z → pos (extent z) ≡ z
extent_is (pos n) h = refl
extent_is (negsuc n) h = absurd (omega (arith, ints))

-- each half has a smaller width
pub narrower : {box low high : List Side} → Cut box low high → (width low < width box) × (width high < width box)
narrower (here s ss l) =
    let m = middle_within s l in
    let p = extent_is (s.upper -ℤ s.lower) (omega (arith, ints)) in
    let q = extent_is (middle s -ℤ s.lower) (omega (arith, ints, m.0)) in
    let r = extent_is (s.upper -ℤ (middle s +ℤ pos 1)) (omega (arith, ints, m.1)) in
    (omega (arith, ints, m.0, m.1), omega (arith, ints, m.0, m.1))
narrower (after s q c) = let n = narrower c in (omega (arith, n.0), omega (arith, n.1))

pub filled_cut : {box low high : List Side} → Cut box low high → Filled box → Filled low × Filled high
filled_cut (here s ss l) f =
    let m = middle_within s l in
    ((m.0, f.1), (omega (arith, ints, m.1), f.1))
filled_cut (after s q c) f = let r = filled_cut c f.1 in ((f.0, r.0), (f.0, r.1))

-- a run in two parts
run_append : (n m k : ℕ) (a b : ℤ) → k ≡ n + m → b ≡ (a +ℤ pos n) → run_from a k ≡ run_from a n ++ run_from b m
run_append zero m k a b e d =
    let same : k ≡ m = omega arith in
    let start : a ≡ b = omega (arith, ints) in
    ap (λ j. run_from a j) same ∙ ap (λ z. run_from z m) start
run_append (suc n) m k a b e d =
    let same : k ≡ suc (n + m) = omega arith in
    ap (λ j. run_from a j) same ∙ ap (λ l. a ∷ l) (run_append n m (n + m) (a +ℤ pos 1) b refl (omega (arith, ints)))

side_values-cut : (s : Side) → s.lower <ℤ s.upper → side_values s ≡ side_values (low_half s) ++ side_values (high_half s)
side_values-cut s h =
    let m = middle_within s h in
    let p = count_is (s.upper -ℤ s.lower) (omega (arith, ints)) in
    let q = count_is (middle s -ℤ s.lower) (omega (arith, ints, m.0)) in
    let r = count_is (s.upper -ℤ (middle s +ℤ pos 1)) (omega (arith, ints, m.1)) in
    run_append (count_to (middle s -ℤ s.lower)) (count_to (s.upper -ℤ (middle s +ℤ pos 1))) (count_to (s.upper -ℤ s.lower)) s.lower (middle s +ℤ pos 1) (omega (arith, ints)) (omega (arith, ints))

box_points-single : (s : Side) (ss : List Side) → s.lower ≤ℤ s.upper → s.upper ≤ℤ s.lower → box_points (s ∷ ss) ≡ map (λ x. s.lower ∷ x) (box_points ss)
box_points-single s ss h k =
    let p = count_is (s.upper -ℤ s.lower) (omega (arith, ints)) in
    let one : count_to (s.upper -ℤ s.lower) ≡ suc zero = omega (arith, ints) in
    ap (λ n. flat_map (λ v. map (λ x. v ∷ x) (box_points ss)) (run_from s.lower n)) one ∙ append-nil (map (λ x. s.lower ∷ x) (box_points ss))

-- the points of a box are those of the low half and then those of the high half
pub points_cut : {box low high : List Side} → Cut box low high → Filled box → box_points box ≡ box_points low ++ box_points high
points_cut (here s ss l) f =
    ap (λ vs. flat_map (λ v. map (λ x. v ∷ x) (box_points ss)) vs) (side_values-cut s l)
    ∙ flat_map-append (λ v. map (λ x. v ∷ x) (box_points ss)) (side_values (low_half s)) (side_values (high_half s))
points_cut (after s {ss = ss} {low = low} {high = high} q c) f =
    let g = filled_cut c f.1 in
    box_points-single s ss f.0 q
    ∙ (ap (λ ps. map (λ x. s.lower ∷ x) ps) (points_cut c f.1)
    ∙ (map-append (λ x. s.lower ∷ x) (box_points low) (box_points high)
    ∙ (ap (λ ps. ps ++ map (λ x. s.lower ∷ x) (box_points high)) (sym (box_points-single s low f.0 q))
    ∙ ap (λ ps. box_points (s ∷ low) ++ ps) (sym (box_points-single s high f.0 q)))))

single_first : (s : Side) (ss : List Side) (t : Bool) → int_lt s.lower s.upper ≡ t → s.lower ≤ℤ s.upper → (o : Option Halves) → (o ≡ None → Single ss) →
    (if t then Some (record { low = low_half s ∷ ss; high = high_half s ∷ ss }) else behind s o) ≡ None → Single (s ∷ ss)
single_first s ss true e f o r d = absurd cc
single_first s ss false e f None r d = let l = above_from_test s.lower s.upper e in (omega (arith, ints), r refl)
single_first s ss false e f (Some g) r d = absurd cc

-- a box that can't be halved has single columns
pub single_of : (box : List Side) → Filled box → halves box ≡ None → Single box
single_of [] f e = tt
single_of (s ∷ ss) f e = single_first s ss (int_lt s.lower s.upper) refl f.0 (halves ss) (λ d. single_of ss f.1 d) e

-- it has one point
pub points_single : (box : List Side) → Single box → box_points box ≡ corner box ∷ []
points_single [] h = refl
points_single (s ∷ ss) h =
    box_points-single s ss (omega (arith, ints, h.0)) (omega (arith, ints, h.0)) ∙ ap (λ ps. map (λ x. s.lower ∷ x) ps) (points_single ss h.1)

-- a narrower first side, and the same first side
front_within : (inner outer : Side) (ss : List Side) → outer.lower ≤ℤ inner.lower → inner.upper ≤ℤ outer.upper → Filled (inner ∷ ss) → Within (inner ∷ ss) (outer ∷ ss)
front_within inner outer ss l u f = record { long = refl; filled = f; lower = lowers; upper = uppers }
  where
    lowers : (j : ℕ) → j < length (outer ∷ ss) → (side_at (outer ∷ ss) j).lower ≤ℤ (side_at (inner ∷ ss) j).lower
    lowers zero m = l
    lowers (suc j) m = omega (arith, ints)

    uppers : (j : ℕ) → j < length (outer ∷ ss) → (side_at (inner ∷ ss) j).upper ≤ℤ (side_at (outer ∷ ss) j).upper
    uppers zero m = u
    uppers (suc j) m = omega (arith, ints)

behind_within : (s : Side) (inner outer : List Side) → s.lower ≤ℤ s.upper → Within inner outer → Within (s ∷ inner) (s ∷ outer)
behind_within s inner outer f w = record { long = ap suc w.long; filled = (f, w.filled); lower = lowers; upper = uppers }
  where
    lowers : (j : ℕ) → j < length (s ∷ outer) → (side_at (s ∷ outer) j).lower ≤ℤ (side_at (s ∷ inner) j).lower
    lowers zero m = omega (arith, ints)
    lowers (suc j) m = w.lower j (omega arith)

    uppers : (j : ℕ) → j < length (s ∷ outer) → (side_at (s ∷ inner) j).upper ≤ℤ (side_at (s ∷ outer) j).upper
    uppers zero m = omega (arith, ints)
    uppers (suc j) m = w.upper j (omega arith)

-- the halves of a box lie in it
pub cut_within : {box low high : List Side} → Cut box low high → Filled box → Within low box × Within high box
cut_within (here s ss l) f =
    let m = middle_within s l in
    let g = filled_cut (here s ss l) f in
    (front_within (low_half s) s ss (omega (arith, ints)) (omega (arith, ints, m.1)) g.0, front_within (high_half s) s ss (omega (arith, ints, m.0)) (omega (arith, ints)) g.1)
cut_within (after s {ss = ss} {low = low} {high = high} q c) f =
    let r = cut_within c f.1 in
    (behind_within s low ss f.0 r.0, behind_within s high ss f.0 r.1)
