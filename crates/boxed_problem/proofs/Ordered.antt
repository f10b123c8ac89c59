-- The points of a box stand in ascending order.
use Rattle.std.proofs.Common.{arith, refl, ap, sym, inl, inr, ◌∙◌, ◌≡◌, ◌⊎◌, ℕ, zero, suc, Bool, true, false, List, [], ◌∷◌, ◌++◌, map, length, int_lt, ℤ, pos, ◌+ℤ◌, ◌<ℤ◌, if◌then◌else◌}
use Rattle.std.proofs.lemmas.Int.{ints}
use Rattle.std.specs.List.{AllByRecursion, filter, flat_map}
use Rattle.boxed_problem.specs.Optimum.{Precedes}
use Rattle.boxed_problem.specs.Points.{box_points, run_from, side_count}
use Rattle.boxed_problem.specs.declared.parts.Side.{Side}
use Rattle.base_words.proofs.Comparisons.{below_from_test, above_from_test}
use Rattle.boxed_problem.proofs.Members.{all_append, all_map, all_members, filter_member, member_all}

-- no point precedes one that precedes it
pub precedes_not_both : (x y : List ℤ) → Precedes x y → Precedes y x → ⊥
precedes_not_both [] y h k = h
precedes_not_both (v ∷ x) [] h k = h
precedes_not_both (v ∷ x) (w ∷ y) (inl l) (inl m) = absurd (omega (arith, ints))
precedes_not_both (v ∷ x) (w ∷ y) (inl l) (inr m) = absurd (omega (arith, ints, m.0))
precedes_not_both (v ∷ x) (w ∷ y) (inr l) (inl m) = absurd (omega (arith, ints, l.0))
precedes_not_both (v ∷ x) (w ∷ y) (inr l) (inr m) = precedes_not_both x y l.1 m.1

equal : (v w : ℤ) → int_lt v w ≡ false → int_lt w v ≡ false → v ≡ w
equal v w e f =
    let l = above_from_test v w e in
    let m = above_from_test w v f in
    omega (arith, ints)

-- of two points of the same box one precedes the other, or they are equal
pub compared : (x y : List ℤ) → length x ≡ length y → Precedes x y ⊎ ((x ≡ y) ⊎ Precedes y x)
compared [] [] h = inr (inl refl)
compared [] (w ∷ y) h = absurd (omega arith)
compared (v ∷ x) [] h = absurd (omega arith)
compared (v ∷ x) (w ∷ y) h = by_tests (int_lt v w) (int_lt w v) refl refl (compared x y (omega arith))
  where
    by_tests : (t u : Bool) → int_lt v w ≡ t → int_lt w v ≡ u → Precedes x y ⊎ ((x ≡ y) ⊎ Precedes y x) → Precedes (v ∷ x) (w ∷ y) ⊎ (((v ∷ x) ≡ (w ∷ y)) ⊎ Precedes (w ∷ y) (v ∷ x))
    by_tests true u e f r = inl (inl (below_from_test v w e))
    by_tests false true e f r = inr (inr (inl (below_from_test w v f)))
    by_tests false false e f (inl p) = inl (inr (equal v w e f, p))
    by_tests false false e f (inr (inl p)) = inr (inl (ap (λ a. a ∷ x) (equal v w e f) ∙ ap (λ l. w ∷ l) p))
    by_tests false false e f (inr (inr p)) = inr (inr (inr (sym (equal v w e f), p)))

-- each point of the list precedes all later ones
abbrev pub Ascending : List (List ℤ) → Type 0
Ascending [] = Unit {0}
Ascending (x ∷ xs) = AllByRecursion (Precedes x) xs × Ascending xs

ascending_append : (xs ys : List (List ℤ)) → Ascending xs → Ascending ys → AllByRecursion (λ x. AllByRecursion (Precedes x) ys) xs → Ascending (xs ++ ys)
ascending_append [] ys a b h = b
ascending_append (x ∷ xs) ys a b h = (all_append (Precedes x) xs ys a.0 h.0, ascending_append xs ys a.1 b h.1)

ascending_map : (v : ℤ) (xs : List (List ℤ)) → Ascending xs → Ascending (map (λ y. v ∷ y) xs)
ascending_map v [] a = tt
ascending_map v (x ∷ xs) a = (all_map (Precedes (v ∷ x)) (Precedes x) (λ y. v ∷ y) xs (λ y p. inr (refl, p)) a.0, ascending_map v xs a.1)

-- a point with a smaller first value precedes all of a run
before_run : (b : ℤ) (x : List ℤ) (xs : List (List ℤ)) (n : ℕ) (a : ℤ) → b <ℤ a → AllByRecursion (Precedes (b ∷ x)) (flat_map (λ w. map (λ y. w ∷ y) xs) (run_from a n))
before_run b x xs zero a l = tt
before_run b x xs (suc n) a l =
    all_append (Precedes (b ∷ x)) (map (λ y. a ∷ y) xs) (flat_map (λ w. map (λ y. w ∷ y) xs) (run_from (a +ℤ pos 1) n))
    (all_map (Precedes (b ∷ x)) (λ y. Unit {0}) (λ y. a ∷ y) xs (λ y u. inl l) (all_members (λ y. Unit {0}) xs (λ y m. tt)))
    (before_run b x xs n (a +ℤ pos 1) (omega (arith, ints)))

ascending_run : (xs : List (List ℤ)) (n : ℕ) (a : ℤ) → Ascending xs → Ascending (flat_map (λ w. map (λ y. w ∷ y) xs) (run_from a n))
ascending_run xs zero a h = tt
ascending_run xs (suc n) a h =
    ascending_append (map (λ y. a ∷ y) xs) (flat_map (λ w. map (λ y. w ∷ y) xs) (run_from (a +ℤ pos 1) n))
    (ascending_map a xs h) (ascending_run xs n (a +ℤ pos 1) h)
    (all_map (λ x. AllByRecursion (Precedes x) (flat_map (λ w. map (λ y. w ∷ y) xs) (run_from (a +ℤ pos 1) n))) (λ y. Unit {0}) (λ y. a ∷ y) xs
    (λ y u. before_run a y xs n (a +ℤ pos 1) (omega (arith, ints))) (all_members (λ y. Unit {0}) xs (λ y m. tt)))

-- the points of a box stand in order
pub points_ascend : (box : List Side) → Ascending (box_points box)
points_ascend [] = (tt, tt)
points_ascend (s ∷ ss) = ascending_run (box_points ss) (side_count s) s.lower (points_ascend ss)

pub filter_ascends : (p : List ℤ → Bool) (xs : List (List ℤ)) → Ascending xs → Ascending (filter p xs)
filter_ascends p [] a = tt
filter_ascends p (x ∷ xs) a = by_test (p x) (filter_ascends p xs a.1)
  where
    by_test : (t : Bool) → Ascending (filter p xs) → Ascending (if t then (x ∷ filter p xs) else filter p xs)
    by_test true r = (all_members (Precedes x) (filter p xs) (λ y m. member_all (Precedes x) y xs a.0 (filter_member p y xs m).0), r)
    by_test false r = r
