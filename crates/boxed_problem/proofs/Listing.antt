-- Stepping through a box lists all of its points in order.
use Rattle.std.proofs.Common.{arith, refl, ap, sym, subst, ◌∙◌, ◌≡◌, ℕ, zero, suc, ◌<◌, Bool, true, false, List, [], ◌∷◌, ◌++◌, map, length, ℤ, pos, negsuc, ◌+ℤ◌, ◌-ℤ◌, ◌≤ℤ◌, ◌<ℤ◌, Option, Some, None, if◌then◌else◌, int_lt}
use Rattle.std.proofs.lemmas.Int.{ints}
use Rattle.std.specs.List.{flat_map}
use Rattle.boxed_problem.specs.Sides.{Filled, corner, Filled, corner}
use Rattle.boxed_problem.specs.Odometer.{OnSides, next_with, next_point, points_above, points_from, points_after}
use Rattle.boxed_problem.specs.Points.{InBox, box_points, run_from, count_to}
use Rattle.boxed_problem.specs.Sides.{side_at}
use Rattle.base_words.specs.Sums.{number_at}
use Rattle.boxed_problem.specs.declared.parts.Side.{Side}

-- how many whole numbers lie from a to a + z
pub count_is : (z : ℤ) → negsuc 0 ≤ℤ z → pos (count_to z) ≡ (z +ℤ pos 1)
count_is (pos n) h = omega (arith, ints)
count_is (negsuc zero) h = omega (arith, ints)
count_is (negsuc (suc n)) h = absurd (omega (arith, ints))

count_none : (z : ℤ) → z <ℤ pos 0 → count_to z ≡ 0
count_none (pos n) h = absurd (omega (arith, ints))
count_none (negsuc n) h = refl

-- the points above v begin with those at v + 1
points_above-next : (s : Side) (ss : List Side) (v : ℤ) → v <ℤ s.upper →
    points_above s ss v ≡ map (λ x. (v +ℤ pos 1) ∷ x) (box_points ss) ++ points_above s ss (v +ℤ pos 1)
points_above-next s ss v h =
    let n = count_is (s.upper -ℤ (v +ℤ pos 1)) (omega (arith, ints)) in
    let m = count_is (s.upper -ℤ ((v +ℤ pos 1) +ℤ pos 1)) (omega (arith, ints)) in
    let e : count_to (s.upper -ℤ (v +ℤ pos 1)) ≡ suc (count_to (s.upper -ℤ ((v +ℤ pos 1) +ℤ pos 1))) = omega (arith, ints) in
    ap (λ k. flat_map (λ w. map (λ x. w ∷ x) (box_points ss)) (run_from (v +ℤ pos 1) k)) e

points_above-last : (s : Side) (ss : List Side) (v : ℤ) → s.upper ≤ℤ v → points_above s ss v ≡ []
points_above-last s ss v h =
    ap (λ k. flat_map (λ w. map (λ x. w ∷ x) (box_points ss)) (run_from (v +ℤ pos 1) k)) (count_none (s.upper -ℤ (v +ℤ pos 1)) (omega (arith, ints)))

-- the points from the corner on are all of them
pub points_from-corner : (box : List Side) → Filled box → points_from box (corner box) ≡ box_points box
points_from-corner [] f = refl
points_from-corner (s ∷ ss) f =
    let n = count_is (s.upper -ℤ s.lower) (omega (arith, ints, f.0)) in
    let m = count_is (s.upper -ℤ (s.lower +ℤ pos 1)) (omega (arith, ints, f.0)) in
    let e : count_to (s.upper -ℤ s.lower) ≡ suc (count_to (s.upper -ℤ (s.lower +ℤ pos 1))) = omega (arith, ints) in
    ap (λ ps. map (λ x. s.lower ∷ x) ps ++ points_above s ss s.lower) (points_from-corner ss f.1)
    ∙ sym (ap (λ k. flat_map (λ w. map (λ x. w ∷ x) (box_points ss)) (run_from s.lower k)) e)

next_with-points : (s : Side) (ss : List Side) (v : ℤ) (x : List ℤ) → Filled ss → v ≤ℤ s.upper → (o : Option (List ℤ)) → points_from ss x ≡ x ∷ points_after ss o →
    map (λ y. v ∷ y) (points_from ss x) ++ points_above s ss v ≡ (v ∷ x) ∷ points_after (s ∷ ss) (next_with s ss v o)
next_with-points s ss v x f u (Some y) e = ap (λ ps. map (λ y. v ∷ y) ps ++ points_above s ss v) e
next_with-points s ss v x f u None e = ap (λ ps. map (λ y. v ∷ y) ps ++ points_above s ss v) e ∙ ap (λ l. (v ∷ x) ∷ l) (by_test (int_lt v s.upper) refl)
  where
    by_test : (t : Bool) → int_lt v s.upper ≡ t → points_above s ss v ≡ points_after (s ∷ ss) (if t then Some ((v +ℤ pos 1) ∷ corner ss) else None)
    by_test true h =
        let l : v <ℤ s.upper = grind (arith, ints) in
        points_above-next s ss v l ∙ ap (λ ps. map (λ y. (v +ℤ pos 1) ∷ y) ps ++ points_above s ss (v +ℤ pos 1)) (sym (points_from-corner ss f))
    by_test false h =
        let l : s.upper ≤ℤ v = grind (arith, ints) in
        points_above-last s ss v l

-- the points from x on are x and those from the next one on
points_from-step : (box : List Side) (x : List ℤ) → Filled box → OnSides box x → points_from box x ≡ x ∷ points_after box (next_point box x)
points_from-step [] [] f h = refl
points_from-step [] (v ∷ x) f h = absurd h
points_from-step (s ∷ ss) [] f h = absurd h
points_from-step (s ∷ ss) (v ∷ x) f h = next_with-points s ss v x f.1 h.0.1 (next_point ss x) (points_from-step ss x f.1 h.1)

pub points_from-next : (box : List Side) (x y : List ℤ) → Filled box → OnSides box x → next_point box x ≡ Some y → points_from box x ≡ x ∷ points_from box y
points_from-next box x y f h e = points_from-step box x f h ∙ ap (λ o. x ∷ points_after box o) e

pub points_from-last : (box : List Side) (x : List ℤ) → Filled box → OnSides box x → next_point box x ≡ None → points_from box x ≡ x ∷ []
points_from-last box x f h e = points_from-step box x f h ∙ ap (λ o. x ∷ points_after box o) e

pub corner_on : (box : List Side) → Filled box → OnSides box (corner box)
corner_on [] f = tt
corner_on (s ∷ ss) f = ((omega (arith, ints), f.0), corner_on ss f.1)

next_with-on : (s : Side) (ss : List Side) (v : ℤ) (y : List ℤ) → s.lower ≤ℤ v → v ≤ℤ s.upper → Filled ss → (o : Option (List ℤ)) → ((z : List ℤ) → o ≡ Some z → OnSides ss z) → next_with s ss v o ≡ Some y → OnSides (s ∷ ss) y
next_with-on s ss v y l u f (Some z) h e =
    let same : (v ∷ z) ≡ y = cc in
    subst (λ w. OnSides (s ∷ ss) w) same ((l, u), h z refl)
next_with-on s ss v y l u f None h e = by_test (int_lt v s.upper) refl e
  where
    by_test : (t : Bool) → int_lt v s.upper ≡ t → (if t then Some ((v +ℤ pos 1) ∷ corner ss) else None) ≡ Some y → OnSides (s ∷ ss) y
    by_test true p q =
        let same : ((v +ℤ pos 1) ∷ corner ss) ≡ y = cc in
        let k : v <ℤ s.upper = grind (arith, ints) in
        subst (λ w. OnSides (s ∷ ss) w) same ((omega (arith, ints), omega (arith, ints)), corner_on ss f)
    by_test false p q = absurd cc

pub next_point-on : (box : List Side) (x y : List ℤ) → Filled box → OnSides box x → next_point box x ≡ Some y → OnSides box y
next_point-on [] x y f h e = absurd cc
next_point-on (s ∷ ss) [] y f h e = absurd h
next_point-on (s ∷ ss) (v ∷ x) y f h e = next_with-on s ss v y h.0.0 h.0.1 f.1 (next_point ss x) (λ z p. next_point-on ss x z f.1 h.1 p) e

-- each value lies on its side, by places
pub on_in : (box : List Side) (x : List ℤ) → OnSides box x → InBox box x
on_in [] [] h = record { long = refl; lower = λ j l. absurd (omega arith); upper = λ j l. absurd (omega arith) }
on_in [] (v ∷ x) h = absurd h
on_in (s ∷ ss) [] h = absurd h
on_in (s ∷ ss) (v ∷ x) h =
    let r = on_in ss x h.1 in
    record { long = ap suc r.long; lower = lowers r; upper = uppers r }
  where
    lowers : InBox ss x → (j : ℕ) → j < length (s ∷ ss) → (side_at (s ∷ ss) j).lower ≤ℤ number_at (v ∷ x) j
    lowers r zero l = h.0.0
    lowers r (suc j) l = r.lower j (omega arith)

    uppers : InBox ss x → (j : ℕ) → j < length (s ∷ ss) → number_at (v ∷ x) j ≤ℤ (side_at (s ∷ ss) j).upper
    uppers r zero l = h.0.1
    uppers r (suc j) l = r.upper j (omega arith)

pub in_on : (box : List Side) (x : List ℤ) → InBox box x → OnSides box x
in_on [] [] h = tt
in_on [] (v ∷ x) h = absurd (omega (arith, h.long))
in_on (s ∷ ss) [] h = absurd (omega (arith, h.long))
in_on (s ∷ ss) (v ∷ x) h = (
  (h.lower 0 (omega arith), h.upper 0 (omega arith)),
  in_on ss x (record {
    long = omega (arith, h.long);
    lower = λ j l. h.lower (suc j) (omega arith);
    upper = λ j l. h.upper (suc j) (omega arith);
  }),
)
